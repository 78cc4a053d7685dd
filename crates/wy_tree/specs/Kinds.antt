-- What the grammar sees of a token.
use Rattle.std.specs.Prelude.{ℕ, Bool, true, false, List, codes, if◌then◌else◌, nat_eq}
use Rattle.std.specs.Str.{bytes_eq}
use Rattle.wy_tree.specs.Seen.{Tok, Word, Key, Int, Long, Char, Text, Sign}
use Rattle.wy_tree.specs.declared.kind.Kind.{Kind}
use Rattle.wy_tree.specs.declared.kind.Kind.TheVariants as kinds
use Rattle.wy_tree.specs.contracts.kind.Kind.{the_type}
use denote.Enum.Bare.{sameb}

unfoldable pub other_key_kind : List ℕ → Kind
other_key_kind s =
    (if bytes_eq s (codes "int") then kinds.Prim else
    (if bytes_eq s (codes "long") then kinds.Prim else
    (if bytes_eq s (codes "true") then kinds.Literal else
    (if bytes_eq s (codes "false") then kinds.Literal else
    (if bytes_eq s (codes "null") then kinds.Literal else
    kinds.Other)))))

unfoldable pub typing_key_kind : List ℕ → Kind
typing_key_kind s =
    (if bytes_eq s (codes "public") then kinds.Modifier else
    (if bytes_eq s (codes "private") then kinds.Modifier else
    (if bytes_eq s (codes "protected") then kinds.Modifier else
    (if bytes_eq s (codes "abstract") then kinds.Modifier else
    (if bytes_eq s (codes "boolean") then kinds.Prim else
    (if bytes_eq s (codes "byte") then kinds.Prim else
    (if bytes_eq s (codes "short") then kinds.Prim else
    (if bytes_eq s (codes "char") then kinds.Prim else
    other_key_kind s))))))))

unfoldable pub leaving_key_kind : List ℕ → Kind
leaving_key_kind s =
    (if bytes_eq s (codes "return") then kinds.Return else
    (if bytes_eq s (codes "throw") then kinds.Throw else
    (if bytes_eq s (codes "try") then kinds.Try else
    (if bytes_eq s (codes "catch") then kinds.Catch else
    (if bytes_eq s (codes "finally") then kinds.Finally else
    (if bytes_eq s (codes "instanceof") then kinds.Instanceof else
    (if bytes_eq s (codes "static") then kinds.Static else
    (if bytes_eq s (codes "final") then kinds.Final else
    typing_key_kind s))))))))

unfoldable pub branching_key_kind : List ℕ → Kind
branching_key_kind s =
    (if bytes_eq s (codes "new") then kinds.New else
    (if bytes_eq s (codes "if") then kinds.If else
    (if bytes_eq s (codes "else") then kinds.Else else
    (if bytes_eq s (codes "while") then kinds.While else
    (if bytes_eq s (codes "do") then kinds.Do else
    (if bytes_eq s (codes "for") then kinds.For else
    (if bytes_eq s (codes "break") then kinds.Break else
    (if bytes_eq s (codes "continue") then kinds.Continue else
    leaving_key_kind s))))))))

unfoldable pub declaring_key_kind : List ℕ → Kind
declaring_key_kind s =
    (if bytes_eq s (codes "class") then kinds.Class else
    (if bytes_eq s (codes "interface") then kinds.Interface else
    (if bytes_eq s (codes "extends") then kinds.Extends else
    (if bytes_eq s (codes "implements") then kinds.Implements else
    (if bytes_eq s (codes "throws") then kinds.Throws else
    (if bytes_eq s (codes "void") then kinds.Void else
    (if bytes_eq s (codes "this") then kinds.This else
    (if bytes_eq s (codes "super") then kinds.Super else
    branching_key_kind s))))))))

unfoldable pub assigning_sign_kind : List ℕ → Kind
assigning_sign_kind s =
    (if bytes_eq s (codes "+=") then kinds.OpAssign else
    (if bytes_eq s (codes "-=") then kinds.OpAssign else
    (if bytes_eq s (codes "*=") then kinds.OpAssign else
    (if bytes_eq s (codes "/=") then kinds.OpAssign else
    (if bytes_eq s (codes "&=") then kinds.OpAssign else
    (if bytes_eq s (codes "|=") then kinds.OpAssign else
    (if bytes_eq s (codes "^=") then kinds.OpAssign else
    (if bytes_eq s (codes "%=") then kinds.OpAssign else
    kinds.Other))))))))

unfoldable pub lone_sign_kind : List ℕ → Kind
lone_sign_kind s =
    (if bytes_eq s (codes "~") then kinds.Flip else
    (if bytes_eq s (codes "!") then kinds.Flip else
    (if bytes_eq s (codes "++") then kinds.Step else
    (if bytes_eq s (codes "--") then kinds.Step else
    (if bytes_eq s (codes "<<=") then kinds.OpAssign else
    (if bytes_eq s (codes ">>=") then kinds.OpAssign else
    (if bytes_eq s (codes ">>>=") then kinds.OpAssign else
    assigning_sign_kind s)))))))

unfoldable pub arithmetic_sign_kind : List ℕ → Kind
arithmetic_sign_kind s =
    (if bytes_eq s (codes "<<") then kinds.Shift else
    (if bytes_eq s (codes ">>") then kinds.Shift else
    (if bytes_eq s (codes ">>>") then kinds.Shift else
    (if bytes_eq s (codes "+") then kinds.Plus else
    (if bytes_eq s (codes "-") then kinds.Minus else
    (if bytes_eq s (codes "*") then kinds.Times else
    (if bytes_eq s (codes "/") then kinds.Times else
    (if bytes_eq s (codes "%") then kinds.Times else
    lone_sign_kind s))))))))

unfoldable pub comparing_sign_kind : List ℕ → Kind
comparing_sign_kind s =
    (if bytes_eq s (codes "^") then kinds.Xor else
    (if bytes_eq s (codes "&") then kinds.And else
    (if bytes_eq s (codes "==") then kinds.Equality else
    (if bytes_eq s (codes "!=") then kinds.Equality else
    (if bytes_eq s (codes "<") then kinds.Relation else
    (if bytes_eq s (codes ">") then kinds.Relation else
    (if bytes_eq s (codes "<=") then kinds.Relation else
    (if bytes_eq s (codes ">=") then kinds.Relation else
    arithmetic_sign_kind s))))))))

unfoldable pub logic_sign_kind : List ℕ → Kind
logic_sign_kind s =
    (if bytes_eq s (codes ".") then kinds.Dot else
    (if bytes_eq s (codes "@") then kinds.At else
    (if bytes_eq s (codes "=") then kinds.Assign else
    (if bytes_eq s (codes "?") then kinds.Question else
    (if bytes_eq s (codes ":") then kinds.Colon else
    (if bytes_eq s (codes "||") then kinds.OrElse else
    (if bytes_eq s (codes "&&") then kinds.AndAlso else
    (if bytes_eq s (codes "|") then kinds.Or else
    comparing_sign_kind s))))))))

unfoldable pub bracket_sign_kind : List ℕ → Kind
bracket_sign_kind s =
    (if bytes_eq s (codes "(") then kinds.OpenParen else
    (if bytes_eq s (codes ")") then kinds.CloseParen else
    (if bytes_eq s (codes "{") then kinds.OpenBrace else
    (if bytes_eq s (codes "}") then kinds.CloseBrace else
    (if bytes_eq s (codes "[") then kinds.OpenBracket else
    (if bytes_eq s (codes "]") then kinds.CloseBracket else
    (if bytes_eq s (codes ";") then kinds.Semicolon else
    (if bytes_eq s (codes ",") then kinds.Comma else
    logic_sign_kind s))))))))

unfoldable pub word_kind_of : List ℕ → Kind
word_kind_of s = if bytes_eq s (codes "Override") then kinds.Override else kinds.Word

-- The two literals that stand only behind a minus sign (JLS 3.10.1).
unfoldable pub int_kind_of : ℕ → Bool → Kind
int_kind_of value false = kinds.Literal
int_kind_of value true = if nat_eq value 2147483648 then kinds.Big else kinds.Literal

unfoldable pub long_kind_of : ℕ → Bool → Kind
long_kind_of value false = kinds.Literal
long_kind_of value true = if nat_eq value 9223372036854775808 then kinds.Big else kinds.Literal

unfoldable pub kind_of : Tok → Kind
kind_of (Word s) = word_kind_of s
kind_of (Key s) = declaring_key_kind s
kind_of (Int value decimal) = int_kind_of value decimal
kind_of (Long value decimal) = long_kind_of value decimal
kind_of (Char unit) = kinds.Literal
kind_of (Text units) = kinds.Literal
kind_of (Sign s) = bracket_sign_kind s

-- the same kind
abbrev pub same : Kind → Kind → Bool
same = sameb the_type
