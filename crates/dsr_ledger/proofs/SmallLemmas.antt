-- The bookings of files: how many there are, how large they are, and that shares add up to at most 100 percent.
use Rattle.dsr_ledger.proofs.Common.{◌≡◌, ℕ, ◌≤◌, length, List, [], ◌∷◌, ◌++◌, Bool, true, false, refl, arith, suc, ◌*◌, ◌^◌, Option, None, Some, AllByRecursion, ltb-false, Summary, Usage, WorkParts, BlockParts, Key, Standing, Verdict, Booked, Rejected, File, filed, summaries_of, filed_after, standing, reasons, first_reason, verdict_by, judged, judged_in, share_total, verdict, SummaryKey, Booking, booked_under, key_under, usage_bookings, block_bookings, summary_key_named, verdict_bookings, filed_bookings, bookings, OpeningParts, IsInRange, IsBlockInRange, IsSmall, AreSmall, AreOfSmall, IsSmallFile, IsReached, Kept}
use Rattle.dsr_ledger.specs.declared.verdict.Reason.{Reason}
use Rattle.dsr_ledger.proofs.EachLemmas.{each_flat, each_of, each_weaker, AreFew, few_flat}
use Rattle.dsr_ledger.proofs.FilesLemmas.{length-stand}

abbrev pub IsWhole : Booking → Type 0
IsWhole b = share_total b.works ≤ 1000000

-- if no reason applies
no_reason : (reasons : List (Bool × Reason)) → first_reason reasons ≡ Booked → AllByRecursion (λ e. e.0 ≡ false) reasons
no_reason [] h = tt
no_reason ((true, reason) ∷ rest) h = absurd (cc)
no_reason ((false, reason) ∷ rest) h = (refl, no_reason rest h)

pub booked_whole : (stands : Standing) (seen : Bool) (known : List ℕ → Bool) (b : BlockParts) → verdict_by stands seen known b ≡ Booked
    → share_total b.works ≤ 1000000
unfolding verdict_by
booked_whole stands seen known b h = ltb-false 1000000 (share_total b.works) (no_reason (reasons stands seen known b) h).1.1.1.1.1.1.0

-- what holds of a usage's booking, whatever its key
abbrev pub OfUsage : (Booking → Type 0) → List WorkParts → Usage → Type 0
OfUsage P works u = (key : Key) → P (record { key = key; usage = u; works = works })

module _ (P : Booking → Type 0) where
  each_under : (isrc : List ℕ) (works : List WorkParts) (u : Usage) (place : Option SummaryKey) → OfUsage P works u
      → AreFew P 1 (booked_under isrc works u place)
  each_under isrc works u None h = (omega arith, tt)
  each_under isrc works u (Some place) h = (omega arith, (h (key_under isrc place), tt))

  pub each_usage : (place : List ℕ → Option SummaryKey) (isrc : List ℕ) (works : List WorkParts) (us : List Usage) → AllByRecursion (OfUsage P works) us
      → AreFew P (length us) (usage_bookings place isrc works us)
  each_usage place isrc works us h =
      let f = λ (u : Usage). booked_under isrc works u (place u.summary_id) in
      let own = few_flat P 1 f us (each_weaker (OfUsage P works) (λ u. AreFew P 1 (f u)) (λ u. each_under isrc works u (place u.summary_id)) us h) in
      (omega (arith, own.0), own.1)

  pub each_verdict : (summaries : List Summary) (b : BlockParts) (v : Verdict) → (v ≡ Booked → AllByRecursion (OfUsage P b.works) b.usages)
      → AreFew P (length b.usages) (verdict_bookings summaries (b, v))
  unfolding block_bookings
  each_verdict summaries b Booked h = each_usage (summary_key_named summaries) b.resource.isrc b.works b.usages (h refl)
  each_verdict summaries b (Rejected reason) h = (omega arith, tt)

judged_whole : (stands : Standing) (summaries : List Summary) (earlier blocks : List BlockParts)
    → AllByRecursion (λ j. AllByRecursion IsWhole (verdict_bookings summaries j)) (judged stands summaries earlier blocks)
judged_whole stands summaries earlier [] = tt
judged_whole stands summaries earlier (b ∷ blocks) = (
  (each_verdict IsWhole summaries b _ (λ e. each_of (OfUsage IsWhole b.works) (λ u key. booked_whole stands _ _ b e) b.usages)).1,
  judged_whole stands summaries (earlier ++ b ∷ []) blocks,
)

-- each booking of files is of a block whose shares add up to at most 100 percent
pub bookings_whole : (files : List File) → AllByRecursion IsWhole (bookings files)
bookings_whole files =
    each_flat IsWhole filed_bookings (filed files) (each_of (λ d. AllByRecursion IsWhole (filed_bookings d)) (λ d.
    each_flat IsWhole (verdict_bookings (summaries_of d.file.opening)) (judged_in d) (judged_whole d.standing (summaries_of d.file.opening) [] d.file.blocks))
    (filed files))

pub each_small : (works : List WorkParts) → share_total works ≤ 1000000 → (us : List Usage) → AllByRecursion IsInRange us
    → AllByRecursion (OfUsage IsSmall works) us
each_small works h = each_weaker IsInRange (OfUsage IsSmall works) (λ u r key. (r, h))

-- the bookings of a block, of a file and of all files
small_judged : (stands : Standing) (summaries : List Summary) (earlier blocks : List BlockParts) → AllByRecursion IsBlockInRange blocks
    → AreFew (λ j. AreFew IsSmall 63 (verdict_bookings summaries j)) (length blocks) (judged stands summaries earlier blocks)
small_judged stands summaries earlier [] h = (omega arith, tt)
small_judged stands summaries earlier (b ∷ blocks) h =
    let rest = small_judged stands summaries (earlier ++ b ∷ []) blocks h.1 in let v = verdict stands summaries earlier b in
    let own = each_verdict IsSmall summaries b v (λ e. each_small b.works (booked_whole stands _ _ b e) b.usages h.0.range) in
    (omega (arith, rest.0), ((omega (arith, own.0, h.0.few), own.1), rest.1))

small_filed : (place : ℕ) (earlier : List (Option OpeningParts)) (files : List File) → AllByRecursion IsSmallFile files
    → AreFew (λ d. AreFew IsSmall (2 ^ 37 * 63) (filed_bookings d)) (length files) (filed_after place earlier files)
small_filed place earlier [] h = (omega arith, tt)
small_filed place earlier (f ∷ files) h =
    let rest = small_filed (suc place) (earlier ++ f.opening ∷ []) files h.1 in let summaries = summaries_of f.opening in
    let here = small_judged (standing earlier f.opening) summaries [] f.blocks h.0.range in
    let own = few_flat IsSmall 63 (verdict_bookings summaries) (judged (standing earlier f.opening) summaries [] f.blocks) here.1 in
    (omega (arith, rest.0), ((omega (arith, here.0, own.0, h.0.few), own.1), rest.1))

pub bookings_small : (files : List File) → length files ≤ 64 → AllByRecursion IsSmallFile files → AreSmall (bookings files)
bookings_small files few h =
    let own = small_filed 1 [] files h in let all = few_flat IsSmall (2 ^ 37 * 63) filed_bookings (filed files) own.1 in
    record { few = omega (arith, own.0, all.0); each = all.1 }

-- the lines of reachable books have small bookings
pub small_lines : (kept : Kept) → length kept.files.items ≤ 64 → IsReached kept → AreOfSmall kept.ledger
small_lines kept few r = record {
  bookings = bookings r.files;
  stand = r.stands.ledger;
  small = bookings_small r.files (omega (arith, length-stand 1 [] kept.files.items r.files r.stands.each)) r.small;
}
