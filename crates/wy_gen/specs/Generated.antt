-- The source text of a generated program: a class of n methods, which its main calls in turn, twenty times.
use Rattle.std.specs.Prelude.{ℕ, ◌+◌, ◌*◌, ◌%◌, List, [], ◌∷◌, ◌++◌, map, codes}
use Rattle.std.specs.Fmt.{decimal}
use Rattle.std.specs.List.{flat_map, range_with_len}

-- what the k-th of n methods divides by, and what it adds
unfoldable pub divisor : ℕ → ℕ → ℕ
divisor n k = (13 * k + n) % 7 + 2

unfoldable pub addend : ℕ → ℕ → ℕ
addend n k = (31 * k + 17 * n) % 97 + 1

-- the k-th of n methods
unfoldable pub method : ℕ → ℕ → List ℕ
method n k =
    codes "static int f" ++ (decimal k ++ (codes "(int a) { if (a % " ++ (decimal (divisor n k)
    ++ (codes " == 0) { t = t + " ++ (decimal (addend n k) ++ (codes "; } return a + t % " ++ (decimal (divisor n k) ++ codes "; }")))))))

-- the call of the k-th method
unfoldable pub call : ℕ → List ℕ
call k = codes "t = t + f" ++ (decimal k ++ codes "(i);")

abbrev pub below : ℕ → List ℕ
below n = range_with_len 0 n

abbrev pub opening : List (List ℕ)
opening =
    codes "class G {"
    ∷ codes "static int t = 1;"
    ∷ []

abbrev pub loop_head : List (List ℕ)
loop_head =
    codes "public static void main(String[] s) {"
    ∷ codes "int i = 0;"
    ∷ codes "while (i < 20) {"
    ∷ []

abbrev pub closing : List (List ℕ)
closing =
    codes "i = i + 1;"
    ∷ codes "}"
    ∷ codes "System.out.println(t);"
    ∷ codes "}"
    ∷ codes "}"
    ∷ []

unfoldable pub lines : ℕ → List (List ℕ)
lines n = opening ++ (map (method n) (below n) ++ (loop_head ++ (map call (below n) ++ closing)))

-- the lines as one text, in which each ends with a line feed
abbrev pub ended : List (List ℕ) → List ℕ
ended lines = flat_map (λ line. line ++ codes "\n") lines

abbrev pub source : ℕ → List ℕ
source n = ended (lines n)
