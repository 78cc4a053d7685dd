-- The built-in classes, their methods and their bodies, and a program of source classes above them.
use Rattle.std.specs.Prelude.{ℕ, false, List, [], ◌∷◌, ◌++◌, Option, Some, codes}
use Rattle.std.specs.Prelude.{None as Absent}
use Rattle.wy_kernel.specs.declared.operator.Primitive.TheVariants as prim
use Rattle.wy_kernel.specs.declared.operator.BinOp.TheVariants as op
use Rattle.wy_kernel.specs.declared.types.Base.TheVariants.{Primitive as Basic, Class as Named}
use Rattle.wy_kernel.specs.declared.types.Ty.TheVariants.{Void, Of}
use Rattle.wy_kernel.specs.declared.types.MethodForm.TheVariants as kinds
use Rattle.wy_kernel.specs.declared.form.CallForm.TheVariants as calling
use Rattle.wy_kernel.specs.declared.form.LibOp.TheVariants as lib
use Rattle.wy_kernel.specs.Form.{Null, Const, Str, Read, Set, Bin, Call, Cat, Lib, Local, Field, the, none, more, Stmt, Block, Eval, If, Return, nothing, done, first}
use Rattle.wy_kernel.specs.Program.{Program, Class, Method, Body}
use Rattle.wy_kernel.specs.Program as part
use Rattle.wy_meaning.proofs.Computed.{class_named, method_named, field_named, body_with}

abbrev pub built_in_classes : List Class
built_in_classes =
    (class_named (codes "Object") 4294967295 Absent ([])) ∷
    (class_named (codes "String") 4294967295 (Some 0) ([])) ∷
    (class_named (codes "Throwable") 4294967295 (Some 0) ([])) ∷
    (class_named (codes "Exception") 4294967295 (Some 2) ([])) ∷
    (class_named (codes "Error") 4294967295 (Some 2) ([])) ∷
    (class_named (codes "RuntimeException") 4294967295 (Some 3) ([])) ∷
    (class_named (codes "ArithmeticException") 4294967295 (Some 5) ([])) ∷
    (class_named (codes "ArrayStoreException") 4294967295 (Some 5) ([])) ∷
    (class_named (codes "ClassCastException") 4294967295 (Some 5) ([])) ∷
    (class_named (codes "IllegalArgumentException") 4294967295 (Some 5) ([])) ∷
    (class_named (codes "NumberFormatException") 4294967295 (Some 9) ([])) ∷
    (class_named (codes "IllegalStateException") 4294967295 (Some 5) ([])) ∷
    (class_named (codes "IndexOutOfBoundsException") 4294967295 (Some 5) ([])) ∷
    (class_named (codes "ArrayIndexOutOfBoundsException") 4294967295 (Some 12) ([])) ∷
    (class_named (codes "StringIndexOutOfBoundsException") 4294967295 (Some 12) ([])) ∷
    (class_named (codes "NegativeArraySizeException") 4294967295 (Some 5) ([])) ∷
    (class_named (codes "NullPointerException") 4294967295 (Some 5) ([])) ∷
    (class_named (codes "UnsupportedOperationException") 4294967295 (Some 5) ([])) ∷
    []

abbrev pub built_in_methods : List Method
built_in_methods =
    (method_named (codes "toString") 2147483648 0 ([]) (Of (Named 1) 0) kinds.Instance) ∷
    (method_named (codes "equals") 2147483649 0 (Of (Named 0) 0 ∷ []) (Of (Basic prim.Bool) 0) kinds.Instance) ∷
    (method_named (codes "new") 2147483650 2 ([]) Void kinds.Constructor) ∷
    (method_named (codes "new") 2147483651 2 (Of (Named 1) 0 ∷ []) Void kinds.Constructor) ∷
    (method_named (codes "getMessage") 2147483652 2 ([]) (Of (Named 1) 0) kinds.Instance) ∷
    (method_named (codes "toString") 2147483653 2 ([]) (Of (Named 1) 0) kinds.Instance) ∷
    (method_named (codes "new") 2147483654 3 ([]) Void kinds.Constructor) ∷
    (method_named (codes "new") 2147483655 3 (Of (Named 1) 0 ∷ []) Void kinds.Constructor) ∷
    (method_named (codes "new") 2147483656 4 ([]) Void kinds.Constructor) ∷
    (method_named (codes "new") 2147483657 4 (Of (Named 1) 0 ∷ []) Void kinds.Constructor) ∷
    (method_named (codes "new") 2147483658 5 ([]) Void kinds.Constructor) ∷
    (method_named (codes "new") 2147483659 5 (Of (Named 1) 0 ∷ []) Void kinds.Constructor) ∷
    (method_named (codes "new") 2147483660 6 ([]) Void kinds.Constructor) ∷
    (method_named (codes "new") 2147483661 6 (Of (Named 1) 0 ∷ []) Void kinds.Constructor) ∷
    (method_named (codes "new") 2147483662 7 ([]) Void kinds.Constructor) ∷
    (method_named (codes "new") 2147483663 7 (Of (Named 1) 0 ∷ []) Void kinds.Constructor) ∷
    (method_named (codes "new") 2147483664 8 ([]) Void kinds.Constructor) ∷
    (method_named (codes "new") 2147483665 8 (Of (Named 1) 0 ∷ []) Void kinds.Constructor) ∷
    (method_named (codes "new") 2147483666 9 ([]) Void kinds.Constructor) ∷
    (method_named (codes "new") 2147483667 9 (Of (Named 1) 0 ∷ []) Void kinds.Constructor) ∷
    (method_named (codes "new") 2147483668 10 ([]) Void kinds.Constructor) ∷
    (method_named (codes "new") 2147483669 10 (Of (Named 1) 0 ∷ []) Void kinds.Constructor) ∷
    (method_named (codes "new") 2147483670 11 ([]) Void kinds.Constructor) ∷
    (method_named (codes "new") 2147483671 11 (Of (Named 1) 0 ∷ []) Void kinds.Constructor) ∷
    (method_named (codes "new") 2147483672 12 ([]) Void kinds.Constructor) ∷
    (method_named (codes "new") 2147483673 12 (Of (Named 1) 0 ∷ []) Void kinds.Constructor) ∷
    (method_named (codes "new") 2147483674 13 ([]) Void kinds.Constructor) ∷
    (method_named (codes "new") 2147483675 13 (Of (Named 1) 0 ∷ []) Void kinds.Constructor) ∷
    (method_named (codes "new") 2147483676 14 ([]) Void kinds.Constructor) ∷
    (method_named (codes "new") 2147483677 14 (Of (Named 1) 0 ∷ []) Void kinds.Constructor) ∷
    (method_named (codes "new") 2147483678 15 ([]) Void kinds.Constructor) ∷
    (method_named (codes "new") 2147483679 15 (Of (Named 1) 0 ∷ []) Void kinds.Constructor) ∷
    (method_named (codes "new") 2147483680 16 ([]) Void kinds.Constructor) ∷
    (method_named (codes "new") 2147483681 16 (Of (Named 1) 0 ∷ []) Void kinds.Constructor) ∷
    (method_named (codes "new") 2147483682 17 ([]) Void kinds.Constructor) ∷
    (method_named (codes "new") 2147483683 17 (Of (Named 1) 0 ∷ []) Void kinds.Constructor) ∷
    []

abbrev pub built_in_bodies : List (Option Body)
built_in_bodies =
    (Some (body_with (Stmt 0 2147483648 false 4294967295 (Block (first (Stmt 1 2147483648 false 4294967295 (Return (the (Lib lib.ObjectText (more (Read (Local 0)) none) 2147483648)))) done))) (2147483648 ∷ []) 2147483648)) ∷
    (Some (body_with (Stmt 2 2147483649 false 4294967295 (Block (first (Stmt 3 2147483649 false 4294967295 (Return (the (Bin op.Eq (Read (Local 0)) (Read (Local 1)) 2147483649)))) done))) (2147483649 ∷ 2147483649 ∷ []) 2147483649)) ∷
    (Some (body_with (Stmt 4 2147483650 false 4294967295 (Block done)) (2147483650 ∷ []) 2147483650)) ∷
    (Some (body_with (Stmt 5 2147483651 false 4294967295 (Block (first (Stmt 6 2147483651 false 4294967295 (Eval (Set (Field (Read (Local 0)) 0 2147483651) (Read (Local 1)) 2147483651))) done))) (2147483651 ∷ 2147483651 ∷ []) 2147483651)) ∷
    (Some (body_with (Stmt 7 2147483652 false 4294967295 (Block (first (Stmt 8 2147483652 false 4294967295 (Return (the (Read (Field (Read (Local 0)) 0 2147483652))))) done))) (2147483652 ∷ []) 2147483652)) ∷
    (Some (body_with (Stmt 9 2147483653 false 4294967295 (Block (first (Stmt 10 2147483653 false 4294967295 (Eval (Set (Local 1) (Call calling.Chosen 4 (the (Read (Local 0))) (Of (Named 2) 0) none 2147483653) 2147483653))) (first (Stmt 11 2147483653 false 9 (If (Bin op.Eq (Read (Local 1)) (Const Null) 2147483653) (Stmt 12 2147483653 false 4294967295 (Return (the (Lib lib.ClassText (more (Read (Local 0)) none) 2147483653)))) nothing)) (first (Stmt 13 2147483653 false 4294967295 (Return (the (Cat (Cat (Lib lib.ClassText (more (Read (Local 0)) none) 2147483653) (Str 0) Void Void 2147483653) (Read (Local 1)) Void Void 2147483653)))) done))))) (2147483653 ∷ 2147483653 ∷ []) 2147483653)) ∷
    (Some (body_with (Stmt 14 2147483654 false 4294967295 (Block (first (Stmt 15 2147483654 false 4294967295 (Eval (Call calling.Direct 2 (the (Read (Local 0))) (Of (Named 2) 0) none 2147483654))) done))) (2147483654 ∷ []) 2147483654)) ∷
    (Some (body_with (Stmt 16 2147483655 false 4294967295 (Block (first (Stmt 17 2147483655 false 4294967295 (Eval (Call calling.Direct 3 (the (Read (Local 0))) (Of (Named 2) 0) (more (Read (Local 1)) none) 2147483655))) done))) (2147483655 ∷ 2147483655 ∷ []) 2147483655)) ∷
    (Some (body_with (Stmt 18 2147483656 false 4294967295 (Block (first (Stmt 19 2147483656 false 4294967295 (Eval (Call calling.Direct 2 (the (Read (Local 0))) (Of (Named 2) 0) none 2147483656))) done))) (2147483656 ∷ []) 2147483656)) ∷
    (Some (body_with (Stmt 20 2147483657 false 4294967295 (Block (first (Stmt 21 2147483657 false 4294967295 (Eval (Call calling.Direct 3 (the (Read (Local 0))) (Of (Named 2) 0) (more (Read (Local 1)) none) 2147483657))) done))) (2147483657 ∷ 2147483657 ∷ []) 2147483657)) ∷
    (Some (body_with (Stmt 22 2147483658 false 4294967295 (Block (first (Stmt 23 2147483658 false 4294967295 (Eval (Call calling.Direct 6 (the (Read (Local 0))) (Of (Named 3) 0) none 2147483658))) done))) (2147483658 ∷ []) 2147483658)) ∷
    (Some (body_with (Stmt 24 2147483659 false 4294967295 (Block (first (Stmt 25 2147483659 false 4294967295 (Eval (Call calling.Direct 7 (the (Read (Local 0))) (Of (Named 3) 0) (more (Read (Local 1)) none) 2147483659))) done))) (2147483659 ∷ 2147483659 ∷ []) 2147483659)) ∷
    (Some (body_with (Stmt 26 2147483660 false 4294967295 (Block (first (Stmt 27 2147483660 false 4294967295 (Eval (Call calling.Direct 10 (the (Read (Local 0))) (Of (Named 5) 0) none 2147483660))) done))) (2147483660 ∷ []) 2147483660)) ∷
    (Some (body_with (Stmt 28 2147483661 false 4294967295 (Block (first (Stmt 29 2147483661 false 4294967295 (Eval (Call calling.Direct 11 (the (Read (Local 0))) (Of (Named 5) 0) (more (Read (Local 1)) none) 2147483661))) done))) (2147483661 ∷ 2147483661 ∷ []) 2147483661)) ∷
    (Some (body_with (Stmt 30 2147483662 false 4294967295 (Block (first (Stmt 31 2147483662 false 4294967295 (Eval (Call calling.Direct 10 (the (Read (Local 0))) (Of (Named 5) 0) none 2147483662))) done))) (2147483662 ∷ []) 2147483662)) ∷
    (Some (body_with (Stmt 32 2147483663 false 4294967295 (Block (first (Stmt 33 2147483663 false 4294967295 (Eval (Call calling.Direct 11 (the (Read (Local 0))) (Of (Named 5) 0) (more (Read (Local 1)) none) 2147483663))) done))) (2147483663 ∷ 2147483663 ∷ []) 2147483663)) ∷
    (Some (body_with (Stmt 34 2147483664 false 4294967295 (Block (first (Stmt 35 2147483664 false 4294967295 (Eval (Call calling.Direct 10 (the (Read (Local 0))) (Of (Named 5) 0) none 2147483664))) done))) (2147483664 ∷ []) 2147483664)) ∷
    (Some (body_with (Stmt 36 2147483665 false 4294967295 (Block (first (Stmt 37 2147483665 false 4294967295 (Eval (Call calling.Direct 11 (the (Read (Local 0))) (Of (Named 5) 0) (more (Read (Local 1)) none) 2147483665))) done))) (2147483665 ∷ 2147483665 ∷ []) 2147483665)) ∷
    (Some (body_with (Stmt 38 2147483666 false 4294967295 (Block (first (Stmt 39 2147483666 false 4294967295 (Eval (Call calling.Direct 10 (the (Read (Local 0))) (Of (Named 5) 0) none 2147483666))) done))) (2147483666 ∷ []) 2147483666)) ∷
    (Some (body_with (Stmt 40 2147483667 false 4294967295 (Block (first (Stmt 41 2147483667 false 4294967295 (Eval (Call calling.Direct 11 (the (Read (Local 0))) (Of (Named 5) 0) (more (Read (Local 1)) none) 2147483667))) done))) (2147483667 ∷ 2147483667 ∷ []) 2147483667)) ∷
    (Some (body_with (Stmt 42 2147483668 false 4294967295 (Block (first (Stmt 43 2147483668 false 4294967295 (Eval (Call calling.Direct 18 (the (Read (Local 0))) (Of (Named 9) 0) none 2147483668))) done))) (2147483668 ∷ []) 2147483668)) ∷
    (Some (body_with (Stmt 44 2147483669 false 4294967295 (Block (first (Stmt 45 2147483669 false 4294967295 (Eval (Call calling.Direct 19 (the (Read (Local 0))) (Of (Named 9) 0) (more (Read (Local 1)) none) 2147483669))) done))) (2147483669 ∷ 2147483669 ∷ []) 2147483669)) ∷
    (Some (body_with (Stmt 46 2147483670 false 4294967295 (Block (first (Stmt 47 2147483670 false 4294967295 (Eval (Call calling.Direct 10 (the (Read (Local 0))) (Of (Named 5) 0) none 2147483670))) done))) (2147483670 ∷ []) 2147483670)) ∷
    (Some (body_with (Stmt 48 2147483671 false 4294967295 (Block (first (Stmt 49 2147483671 false 4294967295 (Eval (Call calling.Direct 11 (the (Read (Local 0))) (Of (Named 5) 0) (more (Read (Local 1)) none) 2147483671))) done))) (2147483671 ∷ 2147483671 ∷ []) 2147483671)) ∷
    (Some (body_with (Stmt 50 2147483672 false 4294967295 (Block (first (Stmt 51 2147483672 false 4294967295 (Eval (Call calling.Direct 10 (the (Read (Local 0))) (Of (Named 5) 0) none 2147483672))) done))) (2147483672 ∷ []) 2147483672)) ∷
    (Some (body_with (Stmt 52 2147483673 false 4294967295 (Block (first (Stmt 53 2147483673 false 4294967295 (Eval (Call calling.Direct 11 (the (Read (Local 0))) (Of (Named 5) 0) (more (Read (Local 1)) none) 2147483673))) done))) (2147483673 ∷ 2147483673 ∷ []) 2147483673)) ∷
    (Some (body_with (Stmt 54 2147483674 false 4294967295 (Block (first (Stmt 55 2147483674 false 4294967295 (Eval (Call calling.Direct 24 (the (Read (Local 0))) (Of (Named 12) 0) none 2147483674))) done))) (2147483674 ∷ []) 2147483674)) ∷
    (Some (body_with (Stmt 56 2147483675 false 4294967295 (Block (first (Stmt 57 2147483675 false 4294967295 (Eval (Call calling.Direct 25 (the (Read (Local 0))) (Of (Named 12) 0) (more (Read (Local 1)) none) 2147483675))) done))) (2147483675 ∷ 2147483675 ∷ []) 2147483675)) ∷
    (Some (body_with (Stmt 58 2147483676 false 4294967295 (Block (first (Stmt 59 2147483676 false 4294967295 (Eval (Call calling.Direct 24 (the (Read (Local 0))) (Of (Named 12) 0) none 2147483676))) done))) (2147483676 ∷ []) 2147483676)) ∷
    (Some (body_with (Stmt 60 2147483677 false 4294967295 (Block (first (Stmt 61 2147483677 false 4294967295 (Eval (Call calling.Direct 25 (the (Read (Local 0))) (Of (Named 12) 0) (more (Read (Local 1)) none) 2147483677))) done))) (2147483677 ∷ 2147483677 ∷ []) 2147483677)) ∷
    (Some (body_with (Stmt 62 2147483678 false 4294967295 (Block (first (Stmt 63 2147483678 false 4294967295 (Eval (Call calling.Direct 10 (the (Read (Local 0))) (Of (Named 5) 0) none 2147483678))) done))) (2147483678 ∷ []) 2147483678)) ∷
    (Some (body_with (Stmt 64 2147483679 false 4294967295 (Block (first (Stmt 65 2147483679 false 4294967295 (Eval (Call calling.Direct 11 (the (Read (Local 0))) (Of (Named 5) 0) (more (Read (Local 1)) none) 2147483679))) done))) (2147483679 ∷ 2147483679 ∷ []) 2147483679)) ∷
    (Some (body_with (Stmt 66 2147483680 false 4294967295 (Block (first (Stmt 67 2147483680 false 4294967295 (Eval (Call calling.Direct 10 (the (Read (Local 0))) (Of (Named 5) 0) none 2147483680))) done))) (2147483680 ∷ []) 2147483680)) ∷
    (Some (body_with (Stmt 68 2147483681 false 4294967295 (Block (first (Stmt 69 2147483681 false 4294967295 (Eval (Call calling.Direct 11 (the (Read (Local 0))) (Of (Named 5) 0) (more (Read (Local 1)) none) 2147483681))) done))) (2147483681 ∷ 2147483681 ∷ []) 2147483681)) ∷
    (Some (body_with (Stmt 70 2147483682 false 4294967295 (Block (first (Stmt 71 2147483682 false 4294967295 (Eval (Call calling.Direct 10 (the (Read (Local 0))) (Of (Named 5) 0) none 2147483682))) done))) (2147483682 ∷ []) 2147483682)) ∷
    (Some (body_with (Stmt 72 2147483683 false 4294967295 (Block (first (Stmt 73 2147483683 false 4294967295 (Eval (Call calling.Direct 11 (the (Read (Local 0))) (Of (Named 5) 0) (more (Read (Local 1)) none) 2147483683))) done))) (2147483683 ∷ 2147483683 ∷ []) 2147483683)) ∷
    []

abbrev pub no_bodies : List (Option Body)
no_bodies = Absent ∷ Absent ∷ Absent ∷ Absent ∷ Absent ∷ Absent ∷ Absent ∷ Absent ∷ Absent ∷ Absent ∷ Absent ∷ Absent ∷ Absent ∷ Absent ∷ Absent ∷ Absent ∷ Absent ∷ Absent ∷ []

-- the classes, methods, fields, bodies of methods, bodies of initializers, fixed texts, the number of statements, and main
abbrev pub program : List Class → List Method → List part.Field → List (Option Body) → List (Option Body) → List (List ℕ) → ℕ → ℕ → Program
program classes methods fields bodies init_bodies texts statements main = record {
  classes = built_in_classes ++ classes;
  methods = built_in_methods ++ methods;
  fields = field_named (codes "message") 4294967295 2 (Of (Named 1) 0) false ∷ fields;
  bodies = built_in_bodies ++ bodies;
  init_bodies = no_bodies ++ init_bodies;
  fixed_texts = codes ": " ∷ texts;
  statements = statements;
  main = main;
}
