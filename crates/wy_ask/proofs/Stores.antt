-- What is answered of a place that is asked about.
use Rattle.std.proofs.Common.{◌≡◌, ℕ, zero, suc, ◌+◌, ◌<◌, nat_lt, get_or, Bor, Bool, true, false, sym, ap, ◌∙◌, refl, List, [], ◌∷◌, ◌++◌, length, Some, None, Result, arith}
use Rattle.std.proofs.Math.Path.{fun_ext}
use Rattle.std.proofs.lemmas.Option.{none-some, same_Some, slice_get_read}
use Rattle.std.proofs.lemmas.Bool.{ltb-true}
use Rattle.std.specs.Option.{is_some, option_copied}
use Rattle.std.specs.Prelude.{Option, IfSome, ok_or, slice_get}
use Rattle.wy_index.specs.Found.{gathered, one_if, is_print, print_of, prints_in}
use Rattle.wy_kernel.specs.Program.{Program}
use Rattle.wy_event.specs.declared.record.Slot.{Slot}
use Rattle.wy_event.specs.Record.{Recorded}
use Rattle.wy_index.specs.declared.index.Index.{Index}
use Rattle.wy_index.specs.Index.{owners_of}
use Rattle.wy_ask.specs.declared.question.AskError.{AskError}
use Rattle.wy_ask.specs.declared.question.AskError.TheVariants as errors
use Rattle.wy_ask.specs.Asked.{IsOf, Resolves, owners, stored}

named : (r found : Option ℕ) (n : ℕ) → r ≡ found → Resolves (ok_or r (errors.NoSuch n)) found n
named None found n e = (sym e, refl)
named (Some event) found n e = sym e

pub answered : (p : Program) (index : Index) (count : ℕ) (rs : List Recorded) → IsOf p index count rs → (place there : Option Slot) (m : ℕ) (r : Option ℕ) (result : Result ℕ AskError)
    → place ≡ there → r ≡ stored (owners_of index) rs place m → result ≡ ok_or r (errors.NoSuch m) → Resolves result (stored (owners p) rs there m) m
answered p index count rs is place there m r result same found gives =
    let all : r ≡ stored (owners p) rs there m = found ∙ ap (λ o. stored o rs place m) (fun_ext is.owners) ∙ ap (λ x. stored (owners p) rs x m) same in
    rw gives (named r (stored (owners p) rs there m) m all)

-- ---- prints are below the end

above_first : (n : ℕ) (rs : List Recorded) (k e : ℕ) → slice_get (gathered print_of n rs) k ≡ Some e → e < n + length rs
above_first n [] k e is = absurd (none-some e is)
above_first n (r ∷ rs) k e is = go (is_print r.kind) k is (λ j h. above_first (suc n) rs j e h)
  where
    go : (b : Bool) (k : ℕ) → slice_get (one_if b n ++ gathered print_of (suc n) rs) k ≡ Some e → ((j : ℕ) → slice_get (gathered print_of (suc n) rs) j ≡ Some e → e < suc n + length rs) → e < n + length (r ∷ rs)
    go true zero h more = let same : n ≡ e = same_Some n e h in omega arith
    go true (suc j) h more = let l : e < suc n + length rs = more j h in omega arith
    go false k h more = let l : e < suc n + length rs = more k h in omega arith

pub print_below : (rs : List Recorded) (k : ℕ) (r : Option ℕ) → r ≡ slice_get (prints_in rs) k → IfSome r (λ e. e < length rs)
print_below rs k None e = tt
print_below rs k (Some x) e = let l : x < 0 + length rs = above_first 0 rs k x (sym e) in omega arith

pub read_print : (rs : List Recorded) (ps : List ℕ) (k : ℕ) (o : Option (Bor ℕ)) → ps ≡ prints_in rs → is_some o ≡ nat_lt k (length ps) → IfSome o (λ x. x.now ≡ get_or ps k x.now)
    → IfSome (option_copied o) (λ e. e < length rs)
read_print rs ps k None same there e = tt
read_print rs ps k (Some x) same there e =
    let less : k < length ps = ltb-true k (length ps) (sym there) in
    print_below rs k (Some x.now) (sym (ap (λ l. slice_get l k) (sym same) ∙ slice_get_read ps (length ps) k x.now refl less e))
