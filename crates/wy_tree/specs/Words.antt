-- Words that are no names, and signs (JLS 3.9, 3.10.3, 3.10.7, 3.11, 3.12).
use Rattle.std.specs.Prelude.{ℕ, Bool, List, [], ◌∷◌, codes}
use Rattle.wy_tree.specs.Bytes.{is_among}

-- the keywords, and true, false and null
unfoldable pub keys : List (List ℕ)
keys =
    codes "abstract" ∷ codes "assert" ∷ codes "boolean" ∷ codes "break" ∷ codes "byte" ∷ codes "case" ∷ codes "catch" ∷ codes "char" ∷ codes "class" ∷ codes "const"
    ∷ codes "continue" ∷ codes "default" ∷ codes "do" ∷ codes "double" ∷ codes "else" ∷ codes "enum" ∷ codes "extends" ∷ codes "final" ∷ codes "finally" ∷ codes "float"
    ∷ codes "for" ∷ codes "goto" ∷ codes "if" ∷ codes "implements" ∷ codes "import" ∷ codes "instanceof" ∷ codes "int" ∷ codes "interface" ∷ codes "long" ∷ codes "native"
    ∷ codes "new" ∷ codes "package" ∷ codes "private" ∷ codes "protected" ∷ codes "public" ∷ codes "return" ∷ codes "short" ∷ codes "static" ∷ codes "strictfp" ∷ codes "super"
    ∷ codes "switch" ∷ codes "synchronized" ∷ codes "this" ∷ codes "throw" ∷ codes "throws" ∷ codes "transient" ∷ codes "try" ∷ codes "void" ∷ codes "volatile" ∷ codes "while"
    ∷ codes "true" ∷ codes "false" ∷ codes "null" ∷ []

-- the separators and operators, up to four bytes long
unfoldable pub signs : List (List ℕ)
signs =
    codes "(" ∷ codes ")" ∷ codes "{" ∷ codes "}" ∷ codes "[" ∷ codes "]" ∷ codes ";" ∷ codes "," ∷ codes "." ∷ codes "..." ∷ codes "@" ∷ codes "::"
    ∷ codes "=" ∷ codes ">" ∷ codes "<" ∷ codes "!" ∷ codes "~" ∷ codes "?" ∷ codes ":" ∷ codes "->"
    ∷ codes "==" ∷ codes ">=" ∷ codes "<=" ∷ codes "!=" ∷ codes "&&" ∷ codes "||" ∷ codes "++" ∷ codes "--"
    ∷ codes "+" ∷ codes "-" ∷ codes "*" ∷ codes "/" ∷ codes "&" ∷ codes "|" ∷ codes "^" ∷ codes "%" ∷ codes "<<" ∷ codes ">>" ∷ codes ">>>"
    ∷ codes "+=" ∷ codes "-=" ∷ codes "*=" ∷ codes "/=" ∷ codes "&=" ∷ codes "|=" ∷ codes "^=" ∷ codes "%=" ∷ codes "<<=" ∷ codes ">>=" ∷ codes ">>>=" ∷ []

unfoldable pub is_key : List ℕ → Bool
is_key w = is_among keys w

unfoldable pub is_sign : List ℕ → Bool
is_sign bytes = is_among signs bytes
