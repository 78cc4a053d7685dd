-- What a look-up finds among the postings, and what is known while it looks.
use Rattle.std.specs.Prelude.{◌≡◌, ◌-◌, ◌<◌, ◌≤◌, ℕ, suc, true, false, List, Option, Some, length, slice_get}
use Rattle.std.specs.Prelude.{None as Absent}
use Rattle.std.specs.Ordering.{is_lt}
use Rattle.wy_index.specs.declared.posting.Posting.{Posting}
use Rattle.wy_index.specs.declared.posting.Find.{Find}
use Rattle.wy_index.specs.declared.posting.Gap.{Gap}
use Rattle.wy_index.specs.declared.recent.Recent.{Recent}
use Rattle.wy_index.specs.Order.{IsInOrder, posting_cmp}

abbrev pub IsFound : List Posting → Find → Type 0
IsFound postings find = slice_get postings find.place ≡ Some find.posting

-- none from a place on comes before the target
abbrev pub NoneFrom : List Posting → Posting → ℕ → Type 0
NoneFrom postings target place = (i : ℕ) (p : Posting) → place ≤ i → slice_get postings i ≡ Some p → is_lt (posting_cmp p target) ≡ false

-- the last that comes before the target, if one does
abbrev pub IsLastBefore : List Posting → Posting → Option Find → Type 0
IsLastBefore postings target Absent = NoneFrom postings target 0
IsLastBefore postings target (Some find) = IsFound postings find × (is_lt (posting_cmp find.posting target) ≡ true) × NoneFrom postings target (suc find.place)

-- in postings in order, what comes before the target ends between low and high
pub record IsGap (postings : List Posting) (target : Posting) (gap : Gap) : Type 0 where
  pub in_order : IsInOrder postings
  pub rises : gap.low ≤ gap.high
  pub within : gap.high ≤ length postings
  pub front : 0 < gap.low → (slice_get postings (gap.low - 1) ≡ Some gap.last) × (is_lt (posting_cmp gap.last target) ≡ true)
  pub behind : NoneFrom postings target gap.high

-- all that is kept was found
abbrev pub IsRecent : List Posting → Recent → Type 0
IsRecent postings recent = (i : ℕ) (find : Find) → slice_get recent.finds.items i ≡ Some (Some find) → IsFound postings find
