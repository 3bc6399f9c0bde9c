-- What parties claim and what nobody claims add up to the amount.
use Rattle.std.proofs.Common.{◌≡◌, ap, sym, ◌∙◌, refl, subst, ℕ, Bool, true, false, true≢false, cond, ◌&&◌, ◌||◌, not, if◌then◌else◌, List, [], ◌∷◌, ◌++◌, arith, Ok, Err, Result}
use Rattle.std.proofs.lemmas.Bool.{and_parts}
use Rattle.std.proofs.lemmas.Bool.Decides.{Decides-int_eq}
use Rattle.std.proofs.lemmas.Grind.{flat_map-append}
use Rattle.std.proofs.lemmas.Int.{ints}
use Rattle.std.proofs.lemmas.List.Elements.{filter-append}
use Rattle.std.proofs.lemmas.Slice.Eq.{bytes_eq-Decides}
use Rattle.std.specs.List.{AllByRecursion, flat_map}
use Rattle.std.specs.Str.{bytes_eq}
use Rattle.std.specs.Prelude.{ℤ, pos, ◌+ℤ◌, ◌-ℤ◌, map, reverse, Option, Some, None}
use Rattle.dsr_ledger.proofs.EachLemmas.{int_sum_by-append}
use Rattle.dsr_ledger.specs.meaning.Bookings.{Key, key_eq}
use Rattle.dsr_ledger.specs.declared.report.PartyLine.{PartyLine}
use Rattle.dsr_ledger.specs.declared.report.ReportKey.{ReportKey}
use Rattle.dsr_statement.proofs.ReadLines.{are_in_place}
use Rattle.dsr_statement.specs.declared.line.Line.{Line}
use Rattle.dsr_statement.specs.declared.line.Line.TheVariants as lines
use Rattle.dsr_statement.specs.meaning.Order.{adds_up, files_in, follows, is_first, is_placed, is_sealed, left_of, may_end, of_latest, party_follows, placed, seals, unclaimed_follows}
use Rattle.dsr_statement.specs.meaning.Readings.{Refusal, IsReadingOf}
use Rattle.dsr_statement.specs.layer.Statements.{AreInPlace}
use Rattle.dsr_statement.specs.meaning.Status.{first_remark}
use Rattle.dsr_sums.specs.declared.account.Account.{Account}
use Rattle.dsr_sums.specs.declared.answer.TotalsError.{TotalsError}
use Rattle.dsr_sums.specs.declared.reports.Role.{Role}
use Rattle.dsr_sums.specs.declared.reports.Role.TheVariants.{Given, Paid}
use Rattle.dsr_sums.specs.declared.rules.Rules.{Rules}
use Rattle.dsr_sums.specs.declared.sums.Sums.{Sums}
use Rattle.dsr_sums.specs.meaning.Accounts.{account_eq, currency_account}
use Rattle.dsr_sums.specs.meaning.Answers.{StatementText, accepted, and_then, joined, statement_of, statement_with, statements_after, unless}
use Rattle.dsr_sums.specs.layer.Laws.{AddUp, currency_sums}
use Rattle.dsr_sums.specs.meaning.Postings.{Posting, balance, posted_to, posting, signed, signed_sums, sums_of}
use Rattle.dsr_sums.specs.meaning.Statements.{Statement, booked_lines, fault_after, key_of_lines, reports_of}
use Rattle.dsr_sums.specs.meaning.Totals.{booked, claimed, numbers, to_currency, unclaimed}

-- what sums lack
abbrev lack : Sums → ℤ
lack s = s.amount -ℤ (s.claimed +ℤ s.unclaimed)

three : (a b c x y z : ℤ) → (a +ℤ x) -ℤ ((b +ℤ y) +ℤ (c +ℤ z)) ≡ (a -ℤ (b +ℤ c)) +ℤ (x -ℤ (y +ℤ z))
three a b c x y z = omega (arith, ints)

zero_first : (x : ℤ) → x ≡ pos 0 +ℤ x
zero_first x = omega (arith, ints)

nothing_lacks : (a b c : ℤ) → a -ℤ (b +ℤ c) ≡ pos 0 → b +ℤ c ≡ a
nothing_lacks a b c e = omega (arith, ints)

-- what a line of a statement with this role lacks
of_ledger : (role : Role) (usages amount : ℤ) → lack (signed_sums role (numbers usages amount)) ≡ signed role amount
of_ledger role usages amount = grind (arith, ints)

of_party : (role : Role) (amount : ℤ) → lack (signed_sums role (claimed amount)) ≡ signed role (pos 0 -ℤ amount)
of_party role amount = grind (arith, ints)

of_unclaimed : (role : Role) (amount : ℤ) → lack (signed_sums role (unclaimed amount)) ≡ signed role (pos 0 -ℤ amount)
of_unclaimed role amount = grind (arith, ints)

none_of : (role : Role) → pos 0 ≡ signed role (pos 0 -ℤ pos 0)
none_of role = grind (arith, ints)

if_own : (b : Bool) (role : Role) (d : ℤ) → cond b (signed role d) (pos 0) ≡ signed role (cond b d (pos 0))
if_own b role d = grind (arith, ints)

-- what is left before a line and after it
moves : (role : Role) (d o n : ℤ) → n ≡ o +ℤ d → signed role d +ℤ signed role (pos 0 -ℤ n) ≡ signed role (pos 0 -ℤ o)
moves Given d o n e = omega (arith, ints)
moves Paid d o n e = omega (arith, ints)

less : (b : Bool) (x y : ℤ) → cond b (x -ℤ y) (pos 0) ≡ cond b x (pos 0) +ℤ cond b (pos 0 -ℤ y) (pos 0)
less b x y = grind (arith, ints)

all_taken : (b : Bool) (x y : ℤ) → y ≡ x → pos 0 ≡ cond b x (pos 0) +ℤ cond b (pos 0 -ℤ y) (pos 0)
all_taken b x y e = grind (arith, ints)

-- a line that is placed passes its tests
passes : {A E : Type 0} (p a s n : Bool) (x : A) (e f g k : E)
    → (if not p then Err e else if not a then Err f else if not s then Err g else if n then Err k else Ok x) ≡ Ok x → (p ≡ true) × (a ≡ true)
passes p a s n x e f g k h = grind arith

module _ (account : Account) where
  -- what an account's postings lack
  abbrev gap : List Posting → ℤ
  gap ps = lack (balance ps account)

  gap-append : (ps qs : List Posting) → gap (ps ++ qs) ≡ gap ps +ℤ gap qs
  gap-append ps qs =
      let own = posted_to account ps in let others = posted_to account qs in
      ap (λ l. lack (sums_of l)) (filter-append (λ p. account_eq account p.account) ps qs)
      ∙ (λ i. int_sum_by-append (λ (p : Posting). p.sums.amount) own others i
      -ℤ (int_sum_by-append (λ (p : Posting). p.sums.claimed) own others i +ℤ int_sum_by-append (λ (p : Posting). p.sums.unclaimed) own others i))
      ∙ three (sums_of own).amount (sums_of own).claimed (sums_of own).unclaimed (sums_of others).amount (sums_of others).claimed (sums_of others).unclaimed

  gap-one : (p : Posting) → gap (p ∷ []) ≡ cond (account_eq account p.account) (lack p.sums) (pos 0)
  gap-one p = by (account_eq account p.account)
    where
      by : (b : Bool) → lack (sums_of (cond b (p ∷ []) [])) ≡ cond b (lack p.sums) (pos 0)
      by true = omega (arith, ints)
      by false = refl

  module _ (role : Role) where
    -- the lines' postings
    abbrev posted : List Line → List Posting
    posted ls = flat_map to_currency (map (booked role) ls)

    -- an amount, if the account is that of the key's currency
    abbrev in_currency : Key → ℤ → ℤ
    in_currency key n = cond (account_eq account (currency_account key.currency)) n (pos 0)

    -- what the parties leave of the latest ledger line, before its unclaimed amount
    abbrev due : List Line → ℤ
    due (lines.Ledger key usages amount ∷ before) = in_currency key amount
    due (lines.Party key p ∷ before) = in_currency key (left_of before -ℤ p.amount)
    due _ = pos 0

    -- nothing is due where no party may stand
    closed : (test : Line → Bool) → ((key : Key) (usages amount : ℤ) → test (lines.Ledger key usages amount) ≡ false)
        → ((key : Key) (p : PartyLine) → test (lines.Party key p) ≡ false) → (none : Bool) (before : List Line)
        → of_latest none test before ≡ true → due before ≡ pos 0
    closed test l p none [] h = refl
    closed test l p none (lines.Ledger key usages amount ∷ before) h = absurd (true≢false (sym h ∙ l key usages amount))
    closed test l p none (lines.Party key q ∷ before) h = absurd (true≢false (sym h ∙ p key q))
    closed test l p none (_ ∷ before) h = refl

    same_currency : (a b : Key) → key_eq a b ≡ true → a.currency ≡ b.currency
    same_currency a b h =
        let currencies = bytes_eq a.currency b.currency in let use_types = bytes_eq a.use_type b.use_type && currencies in
        let others = bytes_eq a.territory b.territory && use_types in
        (bytes_eq-Decides a.currency b.currency).0 (and_parts (bytes_eq a.use_type b.use_type) currencies
        (and_parts (bytes_eq a.territory b.territory) use_types (and_parts (bytes_eq a.isrc b.isrc) others h).1).1).1

    -- after a ledger line or one of its parties, what they leave is due
    opened : (key : Key) (before : List Line) → of_latest false (unclaimed_follows key) before ≡ true → due before ≡ in_currency key (left_of before)
    opened key [] h = absurd cc
    opened key (lines.Ledger k usages amount ∷ before) h = ap (λ c. cond (account_eq account (currency_account c)) amount (pos 0)) (same_currency k key h)
    opened key (lines.Party k p ∷ before) h =
        ap (λ c. cond (account_eq account (currency_account c)) (left_of before -ℤ p.amount) (pos 0)) (same_currency k key h)
    opened key (_ ∷ before) h = absurd cc

    party_opened : (key : Key) (party : List ℕ) (before : List Line) → of_latest false (party_follows key party) before ≡ true
        → of_latest false (unclaimed_follows key) before ≡ true
    party_opened key party [] h = absurd cc
    party_opened key party (lines.Ledger k usages amount ∷ before) h = h
    party_opened key party (lines.Party k p ∷ before) h = (and_parts _ _ h).0
    party_opened key party (_ ∷ before) h = absurd cc

    -- a line with one posting
    adds : (l : Line) (key : Key) (n : Sums) (d : ℤ) (before ls : List Line)
        → to_currency (booked role l) ≡ posting role (currency_account key.currency) n ∷ [] → lack (signed_sums role n) ≡ signed role d
        → due (l ∷ before) ≡ due before +ℤ in_currency key d → gap (posted ls) ≡ signed role (pos 0 -ℤ due (l ∷ before))
        → gap (posted (l ∷ ls)) ≡ signed role (pos 0 -ℤ due before)
    adds l key n d before ls one lacks after rest =
        let own = account_eq account (currency_account key.currency) in
        gap-append (to_currency (booked role l)) (posted ls)
        ∙ (λ i. (ap gap one ∙ gap-one (posting role (currency_account key.currency) n) ∙ ap (λ x. cond own x (pos 0)) lacks ∙ if_own own role d) i +ℤ rest i)
        ∙ moves role (in_currency key d) (due before) (due (l ∷ before)) after

    -- a line without a posting, where nothing is due before it and after it
    stays : (l : Line) (before ls : List Line) → to_currency (booked role l) ≡ [] → due before ≡ pos 0 → due (l ∷ before) ≡ pos 0
        → gap (posted ls) ≡ signed role (pos 0 -ℤ due (l ∷ before)) → gap (posted (l ∷ ls)) ≡ signed role (pos 0 -ℤ due before)
    stays l before ls none was is rest =
        ap (λ ps. gap (ps ++ posted ls)) none ∙ rest ∙ ap (λ n. signed role (pos 0 -ℤ n)) (is ∙ sym was)

    tested : (before : List Line) (l : Line) → placed before l ≡ Ok l → (is_placed before l ≡ true) × (adds_up before l ≡ true)
    tested before l h = passes (is_placed before l) (adds_up before l) (seals before l) _ l _ _ _ _ h

    -- the lines lack what is left before them
    closes : (before ls : List Line) → AreInPlace before ls → gap (posted ls) ≡ signed role (pos 0 -ℤ due before)
    closes before [] h =
        none_of role ∙ ap (λ n. signed role (pos 0 -ℤ n)) (sym (closed may_end (λ k u a. refl) (λ k p. refl) false before h))
    closes before (lines.Ledger key usages amount ∷ ls) h =
        let l = lines.Ledger key usages amount in
        let none = closed (follows (files_in before) l) (λ k u a. refl) (λ k p. refl) false before (tested before l h.0).0 in
        adds l key (numbers usages amount) amount before ls refl (of_ledger role usages amount)
        (zero_first (in_currency key amount) ∙ ap (λ n. n +ℤ in_currency key amount) (sym none)) (closes (l ∷ before) ls h.1)
    closes before (lines.Party key p ∷ ls) h =
        let l = lines.Party key p in
        let before_it = opened key before (party_opened key p.party before (tested before l h.0).0) in
        adds l key (claimed p.amount) (pos 0 -ℤ p.amount) before ls refl (of_party role p.amount)
        (less (account_eq account (currency_account key.currency)) (left_of before) p.amount ∙ ap (λ n. n +ℤ in_currency key (pos 0 -ℤ p.amount)) (sym before_it))
        (closes (l ∷ before) ls h.1)
    closes before (lines.Unclaimed key amount ∷ ls) h =
        let l = lines.Unclaimed key amount in
        let both = tested before l h.0 in
        let before_it = opened key before both.0 in
        adds l key (unclaimed amount) (pos 0 -ℤ amount) before ls refl (of_unclaimed role amount)
        (all_taken (account_eq account (currency_account key.currency)) (left_of before) amount ((Decides-int_eq amount (left_of before)).0 both.1)
        ∙ ap (λ n. n +ℤ in_currency key (pos 0 -ℤ amount)) (sym before_it))
        (closes (l ∷ before) ls h.1)
    closes before (l ∷ ls) h =
        stays l before ls refl (closed (follows (files_in before) l) (λ k u a. refl) (λ k p. refl) (is_first l) before (tested before l h.0).0) refl
        (closes (l ∷ before) ls h.1)

  -- the lines of each statement lack nothing
  all_closed : (ss : List Statement) → AllByRecursion (λ s. AreInPlace [] s.lines) ss → gap (flat_map to_currency (booked_lines ss)) ≡ pos 0
  all_closed [] h = refl
  all_closed (s ∷ ss) h =
      ap gap (flat_map-append to_currency (map (booked s.report.role) s.lines) (booked_lines ss))
      ∙ gap-append (posted s.report.role s.lines) (flat_map to_currency (booked_lines ss))
      ∙ (λ i. (closes s.report.role [] s.lines h.0 ∙ sym (none_of s.report.role)) i +ℤ all_closed ss h.1 i)

abbrev AreAllInPlace : List Statement → Type 0
AreAllInPlace ss = AllByRecursion (λ s. AreInPlace [] s.lines) ss

one_more : (ss : List Statement) (s : Statement) → AreAllInPlace ss → AreInPlace [] s.lines → AreAllInPlace (ss ++ s ∷ [])
one_more [] s h its = (its, tt)
one_more (t ∷ ss) s h its = (h.0, one_more ss s h.1 its)

module _ (rules : Rules) (earlier : List Statement) (h : AreAllInPlace earlier) (role : Role) (ls : List Line) (its : AreInPlace [] ls) where
  accepted_in_place : (s : Statement) → s.lines ≡ ls → (o : Option Refusal) (ss : List Statement) → joined earlier (unless s o) ≡ Ok ss → AreAllInPlace ss
  accepted_in_place s same None ss e = subst AreAllInPlace (grind arith) (one_more earlier s h (subst (AreInPlace []) (sym same) its))
  accepted_in_place s same (Some r) ss e = absurd cc

  with_key : (o : Option ReportKey) (ss : List Statement) → joined earlier (accepted rules earlier (statement_with role ls o)) ≡ Ok ss → AreAllInPlace ss
  with_key None ss e = absurd cc
  with_key (Some key) ss e =
      let s : Statement = record { report = record { role = role; key = key; remark = first_remark 1 ls }; lines = ls } in
      accepted_in_place s refl (fault_after rules (reports_of earlier) s.report) ss e

  if_whole : (b : Bool) (refusal : Refusal) (ss : List Statement)
      → joined earlier (accepted rules earlier (if b then statement_with role ls (key_of_lines ls) else Err refusal)) ≡ Ok ss → AreAllInPlace ss
  if_whole true refusal ss e = with_key (key_of_lines ls) ss e
  if_whole false refusal ss e = absurd cc

next_in_place : (rules : Rules) (earlier : List Statement) (t : StatementText) → AreAllInPlace earlier
    → (r : Result (List Line) Refusal) → IsReadingOf t.bytes t.failed r
    → (ss : List Statement) → joined earlier (accepted rules earlier (statement_of rules.unsealed t.role r)) ≡ Ok ss → AreAllInPlace ss
next_in_place rules earlier t h (Ok ls) is ss e =
    if_whole rules earlier h t.role ls (are_in_place t.bytes t.failed ls is) (rules.unsealed || is_sealed (reverse ls)) _ ss e
next_in_place rules earlier t h (Err refusal) is ss e = absurd cc

-- the lines of statements that are read are in their places
all_in_place : (rules : Rules) (texts : List StatementText) (read : Result (List Statement) TotalsError)
    → ((earlier : List Statement) → read ≡ Ok earlier → AreAllInPlace earlier)
    → (ss : List Statement) → statements_after rules read texts ≡ Ok ss → AreAllInPlace ss
all_in_place rules [] read h ss e = h ss e
all_in_place rules (t ∷ texts) read h ss e = all_in_place rules texts (and_then rules read t) (next read h) ss e
  where
    next : (read : Result (List Statement) TotalsError) → ((earlier : List Statement) → read ≡ Ok earlier → AreAllInPlace earlier)
        → (more : List Statement) → and_then rules read t ≡ Ok more → AreAllInPlace more
    next (Ok earlier) was more is = next_in_place rules earlier t (was earlier refl) t.read t.is_read more is
    next (Err error) was more is = absurd cc

abbrev nothing : Result (List Statement) TotalsError
nothing = Ok []

none_read : (ss : List Statement) → nothing ≡ Ok ss → AreAllInPlace ss
none_read [] e = tt
none_read (s ∷ ss) e = absurd cc

pub add_up : (rules : Rules) (texts : List StatementText) (ss : List Statement) → statements_after rules (Ok []) texts ≡ Ok ss
    → (currency : Account) → AddUp (currency_sums ss currency)
add_up rules texts ss e currency =
    let s = currency_sums ss currency in
    nothing_lacks s.amount s.claimed s.unclaimed
    (all_closed currency ss (all_in_place rules texts (Ok []) none_read ss e))
