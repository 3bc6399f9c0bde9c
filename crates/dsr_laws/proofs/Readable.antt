-- The report of files that texts have is readable.
use Rattle.std.specs.Prelude.{nat_lt}
use Rattle.dsr_laws.proofs.Common.{AllByRecursion, AreFew, BlockParts, Booked, Booking, Bool, CivilDay, Column, Difference, Equal-is, File, Filed, Head, IsInRange, IsReadable, IsSmall, Key, Line, List, None, OpeningParts, Option, Outcome, Part, PartyLine, Reason, Rejected, ReportKey, Some, Standing, Summary, Usage, Verdict, WorkParts, [], abs-int_sum_by, abs-sum, all_parts, all_weaker, amount_sum, and_from, and_parts, ap, are_days, are_usages, arith, at_key, block_bookings, booked_under, booked_whole, bookings, bytes_eq, cases_Bool, civil_from, column_cells, column_named, cond_both, day_count_bounds, day_number, days_from_civil-day_count, days_in_month, difference, differences, differences_in, each_append, each_filter, each_flat, each_line, each_map, each_party, each_weaker, eq_by_cmp, eqb, false, few_flat, fewer, file_line, filed, filed_after, filed_bookings, files_from, filter, find, first_head, first_reason, flat_map, head_of, in_range, inl, inr, int_le, int_sum_by, ints, is_amount, is_at_key, is_cell, is_civil_day, is_for, is_in_range, is_isrc_text, is_line, is_text, is_there, judged, judged_in, key_cells, key_cmp, key_exact, key_of, ledger, length, line_of, lines_of_ledger, list_all, list_any, lt-ltb, map, missing, missing_for, naming, nat_tests, negsuc, not, not-false, outcome_cells, outcome_of, part_of, parts_and_rest, parts_of, party_amount, party_lines, pos, range_with_len, reasons, refl, rejects, rejects_from, rejects_in, report_head, report_of, rounded, same_text, signed_arith, size_of, small_parts, statement_lines, subst, suc, summaries_of, summary_key_named, summary_key_of, sym, true, unclaimed, unsigned_abs, usages_in, usages_sum, verdict_bookings, verdict_by, work_parts, zip, ℕ, ℤ, ◌&&◌, ◌*◌, ◌++◌, ◌+ℤ◌, ◌+◌, ◌-ℤ◌, ◌<ℤ◌, ◌<◌, ◌^◌, ◌∷◌, ◌≡◌, ◌≤ℤ◌, ◌≤◌}
use Rattle.std.specs.Prelude.{option_map}
use Rattle.dsr_events.specs.declared.fault.Outcome.TheVariants as outcomes
use Rattle.dsr_statement.specs.declared.line.Line.TheVariants as lines
use Rattle.dsr_laws.proofs.Values.{IsText, plain}
use Rattle.dsr_laws.proofs.Records.{IsHead, IsSummary, IsUsage}
use Rattle.dsr_laws.proofs.Files.{IfSome, IsBlock, IsFile, IsOpening, IsOutcome}
use Rattle.dsr_laws.proofs.Orders.{all_true, differences_by_file, ledger_by_key, missing_ascend, parties_in_order, range_within, rejects_in_order, sums_add_up}
use Rattle.dsr_laws.proofs.Lines.{IsNamedLine, line_is_text}

-- a file in a report
record IsFiled (d : Filed) : Type 0 where
  place : d.place < 2 ^ 32
  file : IsFile d.file

all_filed : (place : ℕ) (earlier : List (Option OpeningParts)) (files : List File) → AllByRecursion IsFile files → place + length files ≤ 2 ^ 32
    → AllByRecursion IsFiled (filed_after place earlier files)
all_filed place earlier [] h low = tt
all_filed place earlier (f ∷ fs) h low =
    (record { place = omega arith; file = h.0 }, all_filed (suc place) (earlier ++ (f.opening ∷ [])) fs h.1 (omega arith))

pub length_filed : (place : ℕ) (earlier : List (Option OpeningParts)) (files : List File) → length (filed_after place earlier files) ≡ length files
length_filed place earlier [] = refl
length_filed place earlier (f ∷ fs) = ap suc (length_filed (suc place) (earlier ++ (f.opening ∷ [])) fs)

summaries_good : (o : Option OpeningParts) → IfSome IsOpening o → AllByRecursion IsSummary (summaries_of o)
summaries_good None h = tt
summaries_good (Some o) h = h.summaries

-- a block with a verdict of its file
record IsJudged (j : BlockParts × Verdict) : Type 0 where
  block : IsBlock j.0
  stands : Standing
  seen : Bool
  known : List ℕ → Bool
  is : verdict_by stands seen known j.0 ≡ j.1

judged_good : (stands : Standing) (ss : List Summary) (earlier blocks : List BlockParts) → AllByRecursion IsBlock blocks
    → AreFew IsJudged (length blocks) (judged stands ss earlier blocks)
judged_good stands ss earlier [] h = (omega arith, tt)
judged_good stands ss earlier (b ∷ bs) h =
    let rest = judged_good stands ss (earlier ++ (b ∷ [])) bs h.1 in
    (omega (arith, rest.0), (record { block = h.0; stands = stands; seen = _; known = _; is = refl }, rest.1))

-- the bookings: their keys, the names of their parties, and their numbers
abbrev IsKey : Key → Type 0
IsKey k = list_all is_cell (key_cells k []) ≡ true

record IsBooking (b : Booking) : Type 0 where
  key : IsKey b.key
  named : AllByRecursion (λ w. AllByRecursion (IsText plain) w.parties) b.works
  small : IsSmall b

in_range_of : (u : Usage) → IsUsage u → IsInRange u
in_range_of u h = record { usages = omega (arith, h.usages); amount = h.amount }

found_good : (p : Summary → Bool) (ss : List Summary) → AllByRecursion IsSummary ss → IfSome IsSummary (find p ss)
found_good p [] h = tt
found_good p (s ∷ ss) h = cond_both (p s) (Some s) (find p ss) (IfSome IsSummary) (λ e. h.0) (λ e. found_good p ss h.1)

no_reason : (rs : List (Bool × Reason)) → first_reason rs ≡ Booked → AllByRecursion (λ e. e.0 ≡ false) rs
no_reason [] h = tt
no_reason ((true, reason) ∷ rest) h = cc
no_reason ((false, reason) ∷ rest) h = (refl, no_reason rest h)

booked_isrc : (stands : Standing) (seen : Bool) (known : List ℕ → Bool) (b : BlockParts) → verdict_by stands seen known b ≡ Booked
    → is_isrc_text b.resource.isrc ≡ true
unfolding verdict_by
booked_isrc stands seen known b h = not-false (is_isrc_text b.resource.isrc) (no_reason (reasons stands seen known b) h).1.1.1.1.0

booked_good : (ss : List Summary) → AllByRecursion IsSummary ss → (j : BlockParts × Verdict) → IsJudged j → AreFew IsBooking 63 (verdict_bookings ss j)
unfolding block_bookings
booked_good ss h (b, Rejected reason) j = (omega arith, tt)
booked_good ss h (b, Booked) j =
    let under = λ (u : Usage). booked_under b.resource.isrc b.works u (summary_key_named ss u.summary_id) in
    let all = few_flat IsBooking 1 under b.usages (each_weaker IsUsage (λ u. AreFew IsBooking 1 (under u)) (λ u k. one u k _ (found_good _ ss h)) b.usages j.block.usages) in
    (omega (arith, all.0, j.block.few), all.1)
  where
    one : (u : Usage) → IsUsage u → (o : Option Summary) → IfSome IsSummary o → AreFew IsBooking 1 (booked_under b.resource.isrc b.works u (option_map summary_key_of o))
    one u h None k = (omega arith, tt)
    one u h (Some s) k =
        let isrc = booked_isrc j.stands j.seen j.known b j.is in
        (omega arith, (record { key = and_from _ _ isrc (and_from _ _ k.territory (and_from _ _ k.use_type (and_from _ _ k.currency refl))); named = j.block.works; small = (in_range_of u h, booked_whole j.stands j.seen j.known b j.is) }, tt))

-- at most so many bookings of a file, and of 64 files
abbrev most_filed : ℕ
most_filed = 10 ^ 11 * 63

abbrev most_bookings : ℕ
most_bookings = 64 * most_filed

filed_good : (d : Filed) → IsFiled d → AreFew IsBooking most_filed (filed_bookings d)
filed_good d h =
    let ss = summaries_of d.file.opening in let js = judged_good d.standing ss [] d.file.blocks h.file.blocks in
    let own = few_flat IsBooking 63 (verdict_bookings ss) (judged_in d) (each_weaker IsJudged _ (booked_good ss (summaries_good d.file.opening h.file.opening)) (judged_in d) js.1) in
    (omega (arith, js.0, own.0, h.file.few), own.1)

bookings_good : (files : List File) → length files ≤ 64 → AllByRecursion IsFile files → AreFew IsBooking most_bookings (bookings files)
bookings_good files few h =
    let all = few_flat IsBooking most_filed filed_bookings (filed files) (each_weaker IsFiled _ filed_good (filed files) (all_filed 1 [] files h (omega arith))) in
    (omega (arith, length_filed 1 [] files, all.0), all.1)

-- a line in its ranges, whose party is a text of a cell
abbrev IsGood : Line → Type 0
IsGood l = (is_line l ≡ true) × IsNamedLine l

usages_in_range : (z : ℤ) → unsigned_abs z < 2 ^ 127 → are_usages z ≡ true
usages_in_range (pos n) h = lt-ltb n (2 ^ 127) h
usages_in_range (negsuc n) h = lt-ltb (suc n) (2 ^ 127 + 1) (omega arith)

amount_in_range : (z : ℤ) → unsigned_abs z < 2 ^ 123 → is_amount z ≡ true
amount_in_range z h = lt-ltb (unsigned_abs z) (2 ^ 123) h

-- the key of a line is that of a booking
key_among : (bs : List Booking) → AllByRecursion IsBooking bs → (key : Key) → list_any (eq_by_cmp key_cmp key) (map (λ b. b.key) bs) ≡ true → IsKey key
key_among [] h key e = cc
key_among (b ∷ bs) h key e = elim (cases_Bool (eq_by_cmp key_cmp key b.key)) [
  | inl same ↦ subst IsKey (sym (key_exact key b.key ((Equal-is (key_cmp key b.key)).0 same))) h.0.key
  | inr other ↦ key_among bs h.1 key (rw other at e)
]

-- the name of a party is that of a work
abbrev IsNamed : Part → Type 0
IsNamed q = IsText plain q.party

zip_named : (a : ℤ) (parties : List (List ℕ)) (shares : List ℕ) → AllByRecursion (IsText plain) parties → AllByRecursion IsNamed (map (part_of a) (zip parties shares))
zip_named a [] shares h = tt
zip_named a (p ∷ ps) [] h = tt
zip_named a (p ∷ ps) (s ∷ ss) h = (h.0, zip_named a ps ss h.1)

parts_named : (b : Booking) → IsBooking b → AllByRecursion IsNamed (parts_of b)
parts_named b h = let a = b.usage.amount in each_flat IsNamed (work_parts a) b.works (each_weaker _ _ (λ (w : WorkParts) n. zip_named a w.parties w.shares n) b.works h.named)

name_among : (ps : List Part) → AllByRecursion IsNamed ps → (n : List ℕ) → 0 < length (filter (is_for n) ps) → IsText plain n
name_among [] h n some = absurd (omega arith)
name_among (q ∷ ps) h n some = elim (cases_Bool (bytes_eq q.party n)) [
  | inl same ↦ subst (IsText plain) (same_text q.party n same) h.0
  | inr other ↦ name_among ps h.1 n (rw other at some)
]

-- the lines of a ledger line
sums_good : (k : Key) (u a : ℤ) → IsKey k → are_usages u ≡ true → is_amount a ≡ true → is_line (lines.Ledger k u a) ≡ true
sums_good k u a h usages_ amount_ = grind arith

part_good : (k : Key) (p : PartyLine) → IsKey k → list_all (λ b. not (eqb b 9)) p.party ≡ true → is_amount p.amount ≡ true → is_line (lines.Party k p) ≡ true
part_good k p h tabless owed = grind arith

rest_good : (k : Key) (a : ℤ) → IsKey k → is_amount a ≡ true → is_line (lines.Unclaimed k a) ≡ true
rest_good k a h amount_ = grind arith

ledger_line_good : (bs : List Booking) → AreFew IsBooking most_bookings bs → (key : Key) → list_any (eq_by_cmp key_cmp key) (map (λ b. b.key) bs) ≡ true
    → AllByRecursion IsGood (lines_of_ledger (line_of key (at_key key bs)))
unfolding line_of
ledger_line_good bs h key among =
    let own = at_key key bs in let good = key_among bs h.1 key among in
    let all = each_filter IsBooking (is_at_key key) bs h.1 in let few = fewer (is_at_key key) bs in
    let small = each_weaker IsBooking IsSmall (λ b s. s.small) own all in
    let us = abs-int_sum_by (λ (b : Booking). b.usage.usages) (2 ^ 63) own (each_weaker IsSmall _ (λ b s. s.0.usages) own small) in
    let am = abs-int_sum_by (λ (b : Booking). b.usage.amount) (10 ^ 22) own (each_weaker IsSmall _ (λ b s. let a = s.0.amount in omega arith) own small) in
    let size = small_parts own small in let names = each_flat IsNamed parts_of own (each_weaker IsBooking _ parts_named own all) in
    let usages_ = usages_in_range (usages_sum own) (omega (arith, us, few, h.0)) in
    let amount_ = amount_in_range (amount_sum own) (omega (arith, am, few, h.0)) in
    let rest_ = amount_in_range (unclaimed own) (omega (arith, ints, am, few, h.0, size, parts_and_rest own, abs-sum rounded (all_parts own))) in
    let party : (n : List ℕ) → 0 < length (filter (is_for n) (all_parts own)) → IsGood (lines.Party key (record { party = n; amount = party_amount own n })) = λ n some.
    let name = name_among (all_parts own) names n some in
    let tabless = all_weaker plain (λ b. not (eqb b 9)) (λ b k. grind (arith, nat_tests)) n name.all in
    let owed = amount_in_range (party_amount own n) (omega (arith, size_of n (all_parts own), size, few, h.0)) in
    (part_good key (record { party = n; amount = party_amount own n }) good tabless owed, name) in (
      (sums_good key (usages_sum own) (amount_sum own) good usages_ amount_, tt),
      each_append IsGood (map (λ p. lines.Party key p) (party_lines own)) (lines.Unclaimed key (unclaimed own) ∷ [])
          (each_map IsGood (λ p. lines.Party key p) (party_lines own) (each_party (λ p. IsGood (lines.Party key p)) own party))
          ((rest_good key (unclaimed own) good rest_, tt), tt),
    )

ledger_good : (files : List File) → length files ≤ 64 → AllByRecursion IsFile files → AllByRecursion IsGood (flat_map lines_of_ledger (ledger (bookings files)))
ledger_good files few h =
    each_flat IsGood lines_of_ledger (ledger (bookings files)) (each_line (λ l. AllByRecursion IsGood (lines_of_ledger l)) (bookings files)
    (ledger_line_good (bookings files) (bookings_good files few h)))

-- the lines of the files
column_good : (o : Option Column) → list_all is_cell (column_cells o) ≡ true
column_good None = refl
column_good (Some c) = refl

outcome_good : (o : Option Outcome) → IfSome IsOutcome o → list_all is_cell (outcome_cells (outcome_of o)) ≡ true
outcome_good None h = refl
outcome_good (Some outcomes.Whole) h = refl
outcome_good (Some (outcomes.Fault line f)) h = and_from _ _ (lt-ltb line (2 ^ 64) h.0) (and_from _ _ h.1 (column_good (column_named f)))

file_good : (place : ℕ) (o : Option OpeningParts) (s : Standing) (count : ℕ) (e : Outcome) → nat_lt place (2 ^ 64) ≡ true → IfSome IsOpening o
    → (nat_lt count (2 ^ 64) && list_all is_cell (outcome_cells e)) ≡ true
    → is_line (lines.File place (record { number = option_map (λ x. x.head.file_number) o; standing = s; blocks = count; outcome = e })) ≡ true
file_good place None s count e low h rest = and_from _ _ low rest
file_good place (Some o) s count e low h rest = and_from _ _ low (and_from _ _ (lt-ltb o.head.file_number (2 ^ 32) (omega (arith, h.head.number))) rest)

files_good : (place : ℕ) (ds : List Filed) → AllByRecursion IsFiled ds → place + length ds ≤ 2 ^ 32 → AllByRecursion IsGood (files_from place (map file_line ds))
files_good place [] h low = tt
files_good place (d ∷ ds) h low =
    let rest = and_from _ _ (lt-ltb (length d.file.blocks) (2 ^ 64) (omega (arith, h.0.file.few))) (outcome_good d.file.outcome h.0.file.outcome) in
    ((file_good place d.file.opening d.standing (length d.file.blocks) (outcome_of d.file.outcome) (lt-ltb place (2 ^ 64) (omega arith)) h.0.file.opening rest, tt), files_good (suc place) ds h.1 (omega arith))

-- the missing files
missing_good : (o : Option Head) → IfSome IsHead o → (ds : List Filed) → AllByRecursion IsGood (map (λ n. lines.Missing n) (missing_for o ds))
missing_good None h ds = tt
missing_good (Some head) h ds =
    let n = head.number_of_files in let Good : ℕ → Type 0 = λ m. IsGood (lines.Missing m) in
    each_map IsGood (λ m. lines.Missing m) (missing_for (Some head) ds) (each_filter Good (λ m. not (is_there m ds)) (range_with_len 1 n) (
    each_weaker (λ m. (1 ≤ m) × (m < 1 + n)) Good (λ m low. (and_from _ _ (lt-ltb m (2 ^ 32) (omega (arith, h.files, low.1))) refl, tt)) _ (range_within 1 n)))

-- the differences
usages_few : (blocks : List BlockParts) → AllByRecursion IsBlock blocks → length blocks ≤ 10 ^ 11 → AreFew IsInRange most_filed (usages_in blocks)
usages_few blocks h few =
    let all = few_flat IsInRange 63 (λ (b : BlockParts). b.usages) blocks (each_weaker IsBlock (λ b. AreFew IsInRange 63 b.usages)
    (λ b k. (k.few, each_weaker IsUsage IsInRange in_range_of b.usages k.usages)) blocks h) in
    (omega (arith, all.0), all.1)

difference_good : (place : ℕ) (us : List Usage) → place < 2 ^ 32 → AreFew IsInRange most_filed us → (s : Summary) → IsSummary s
    → IsGood (lines.Summary (difference place us s))
difference_good place us low h s k =
    let own = naming s.id us in let all = each_filter IsInRange (λ u. bytes_eq s.id u.summary_id) us h.1 in
    let few = fewer (λ (u : Usage). bytes_eq s.id u.summary_id) us in
    let found = abs-int_sum_by (λ (u : Usage). u.usages) (2 ^ 63) own (each_weaker IsInRange _ (λ u r. r.usages) own all) in
    let amount = abs-int_sum_by (λ (u : Usage). u.amount) (10 ^ 22) own (each_weaker IsInRange _ (λ u r. let a = r.amount in omega arith) own all) in
    let usages_ = λ (z : ℤ) (l : unsigned_abs z < 2 ^ 127). usages_in_range z l in let amount_ = λ (z : ℤ) (l : unsigned_abs z < 2 ^ 123). amount_in_range z l in
    let amounts = and_from _ _ (amount_ s.amount (omega (arith, k.amount))) (and_from _ _ (amount_ (int_sum_by (λ u. u.amount) own) (omega (arith, amount, few, h.0))) refl) in
    let all_ = and_from _ _ (usages_ s.usages (omega (arith, k.usages))) (and_from _ _ (usages_ (int_sum_by (λ u. u.usages) own) (omega (arith, found, few, h.0))) amounts) in
    (and_from _ _ (lt-ltb place (2 ^ 64) (omega arith)) (and_from _ _ k.id all_), tt)

differences_good : (d : Filed) → IsFiled d → AllByRecursion (λ x. IsGood (lines.Summary x)) (differences_in d)
differences_good d h =
    let us = usages_in d.file.blocks in let Good : Difference → Type 0 = λ x. IsGood (lines.Summary x) in let ss = summaries_of d.file.opening in
    each_filter Good _ (map (difference d.place us) ss) (each_map Good (difference d.place us) ss (each_weaker IsSummary (λ s. Good (difference d.place us s))
    (difference_good d.place us h.place (usages_few d.file.blocks h.file.blocks h.file.few)) ss (summaries_good d.file.opening h.file.opening)))

-- the rejects
rejects_good : (place n : ℕ) (js : List (BlockParts × Verdict)) → place < 2 ^ 32 → n + length js ≤ 2 ^ 63 → AllByRecursion IsJudged js
    → AllByRecursion (λ r. IsGood (lines.Reject r)) (rejects_from place n js)
rejects_good place n [] low few h = tt
rejects_good place n ((b, Booked) ∷ js) low few h = rejects_good place (n + 1) js low (omega arith) h.1
rejects_good place n ((b, Rejected reason) ∷ js) low few h =
    let rest = and_from _ _ (lt-ltb n (2 ^ 64) (omega arith)) (and_from _ _ h.0.block.id refl) in
    ((and_from _ _ (lt-ltb place (2 ^ 64) (omega arith)) rest, tt), rejects_good place (n + 1) js low (omega arith) h.1)

rejects_in_good : (d : Filed) → IsFiled d → AllByRecursion (λ r. IsGood (lines.Reject r)) (rejects_in d)
rejects_in_good d h =
    let own = judged_good d.standing (summaries_of d.file.opening) [] d.file.blocks h.file.blocks in
    rejects_good d.place 1 (judged_in d) h.place (omega (arith, own.0, h.file.few)) own.1

-- the key
head_found : (os : List (Option OpeningParts)) → AllByRecursion (IfSome IsOpening) os → IfSome IsHead (first_head os)
head_found [] h = tt
head_found (None ∷ os) h = head_found os h.1
head_found (Some o ∷ os) h = h.0.head

head_good : (files : List File) → AllByRecursion IsFile files → IfSome IsHead (report_head files)
head_good files h =
    head_found (map (λ f. f.opening) files) (each_map (IfSome IsOpening) (λ (f : File). f.opening) files (each_weaker IsFile _ (λ f k. k.opening) files h))

-- from the year 0 to 9999
abbrev IsNear : ℤ → Type 0
IsNear z = (negsuc 4371953 ≤ℤ z) × (z ≤ℤ pos 4371953)

day_near : (d : CivilDay) → is_civil_day d ≡ true → IsNear (day_number d)
day_near d h =
    let date = civil_from d.year d.month d.day h in
    let both = and_parts (is_in_range 0 9999 d.year && is_in_range 1 12 d.month) (is_in_range 1 (days_in_month (pos d.year) d.month) d.day) h in
    let two = and_parts (is_in_range 0 9999 d.year) (is_in_range 1 12 d.month) both.0 in
    let number = days_from_civil-day_count (pos d.year) d.month d.day in
    let days = in_range 1 (days_in_month (pos d.year) d.month) d.day both.1 in
    let count = day_count_bounds (pos d.year) d.month d.day (date.0, in_range 1 12 d.month two.1, days) in
    (omega (arith, signed_arith), omega (arith, signed_arith))

some_days : (z : ℤ) → pos 0 <ℤ z → z <ℤ pos (2 ^ 64) → are_days z ≡ true
some_days (pos n) some low = and_from _ _ (lt-ltb 0 n (omega (arith, signed_arith))) (lt-ltb n (2 ^ 64) (omega (arith, signed_arith)))
some_days (negsuc n) some low = absurd (omega (arith, signed_arith))

days_good : (first last : ℤ) → IsNear first → IsNear last → int_le first last ≡ true → are_days ((last -ℤ first) +ℤ pos 1) ≡ true
days_good first last f l h = some_days ((last -ℤ first) +ℤ pos 1) (omega (arith, signed_arith)) (omega (arith, signed_arith))

key_good : (o : Option Head) → IfSome IsHead o → (k : ReportKey) → option_map key_of o ≡ Some k → IsGood (lines.Report k)
key_good None h k e = cc
key_good (Some head) h k e =
    let same : key_of head ≡ k = cc in
    let days = days_good (day_number head.first_day) (day_number head.last_day) (day_near head.first_day h.first) (day_near head.last_day h.last) h.order in
    let dates = and_from _ _ h.first (and_from _ _ h.last (and_from _ _ days refl)) in
    subst (λ x. IsGood (lines.Report x)) same (and_from _ _ h.id (and_from _ _ (lt-ltb head.number_of_files (2 ^ 32) (omega (arith, h.files))) dates), tt)

-- all lines
lines_good : (files : List File) (k : ReportKey) → length files ≤ 64 → AllByRecursion IsFile files → (report_of files).key ≡ Some k
    → AllByRecursion IsGood (statement_lines (report_of files))
unfolding report_of missing differences rejects
lines_good files k few h e =
    let ds = filed files in let all = all_filed 1 [] files h (omega arith) in let head = head_good files h in (
      subst (λ (o : Option ReportKey). IsGood (head_of o)) (sym e) (key_good (report_head files) head k e),
      each_append IsGood _ _ (files_good 1 ds all (omega (arith, length_filed 1 [] files))) (
          each_append IsGood _ _ (missing_good (report_head files) head ds) (
          each_append IsGood _ _ (each_map IsGood (λ d. lines.Summary d) _ (each_flat (λ x. IsGood (lines.Summary x)) differences_in ds (each_weaker IsFiled _ differences_good ds all))) (
          each_append IsGood _ _ (ledger_good files few h) (
          each_map IsGood (λ r. lines.Reject r) _ (each_flat (λ r. IsGood (lines.Reject r)) rejects_in ds (each_weaker IsFiled _ rejects_in_good ds all)))))),
    )

some_files : (files : List File) (k : ReportKey) → (report_of files).key ≡ Some k → 0 < length (report_of files).files
unfolding report_of
some_files [] k e = cc
some_files (f ∷ fs) k e = omega arith

-- the report of files that texts have is readable
pub readable : (files : List File) (k : ReportKey) → length files ≤ 64 → AllByRecursion IsFile files → (report_of files).key ≡ Some k
    → IsReadable k (report_of files)
unfolding report_of
readable files k few h e =
    let all = lines_good files k few h e in let ls = statement_lines (report_of files) in record {
      key = e;
      files = some_files files k e;
      spelled = all_true is_line ls (each_weaker IsGood (λ l. is_line l ≡ true) (λ l g. g.0) ls all);
      texts = all_true is_text ls (each_weaker IsGood (λ l. is_text l ≡ true) (λ l g. line_is_text l g.0 g.1) ls all);
      missing = missing_ascend files;
      differences = differences_by_file files;
      ledger = ledger_by_key (bookings files);
      parties = parties_in_order (bookings files);
      sums = sums_add_up files;
      rejects = rejects_in_order files;
    }
