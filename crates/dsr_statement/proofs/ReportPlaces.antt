-- The lines of a readable report are in their places.
use Rattle.std.proofs.Common.{arith, ◌≡◌, ◌<◌, ℕ, suc, List, [], ◌∷◌, ◌++◌, length, map, Bool, true, false, refl, ap, sym, subst, ◌∙◌, append_assoc, Option, Ok, nat_lt, nat_le}
use Rattle.std.specs.Prelude.{ℤ, ◌+ℤ◌, ◌-ℤ◌}
use Rattle.std.specs.List.{flat_map, list_all, AllByRecursion}
use Rattle.std.proofs.lemmas.Int.{ints}
use Rattle.std.proofs.lemmas.Bool.{and_parts, and_from, eq-eqb}
use Rattle.std.proofs.lemmas.Bool.Decides.{Decides-int_eq}
use Rattle.std.proofs.lemmas.List.Concat.{flat_map-cons}
use Rattle.std.proofs.lemmas.List.{append-nil}
use Rattle.dsr_ledger.specs.meaning.Bookings.{Key, key_eq}
use Rattle.dsr_ledger.specs.meaning.Laws.{key_of_line}
use Rattle.dsr_ledger.specs.layer.Laws.{AddsUp}
use Rattle.dsr_ledger.specs.meaning.Limits.{int_sum_by}
use Rattle.dsr_ledger.specs.declared.report.ReportKey.{ReportKey}
use Rattle.dsr_ledger.specs.declared.report.FileLine.{FileLine}
use Rattle.dsr_ledger.specs.declared.report.PartyLine.{PartyLine}
use Rattle.dsr_ledger.specs.declared.report.LedgerLine.{LedgerLine}
use Rattle.dsr_ledger.specs.declared.report.Difference.{Difference}
use Rattle.dsr_ledger.specs.declared.report.Reject.{Reject}
use Rattle.dsr_ledger.specs.declared.report.Report.{Report}
use Rattle.dsr_statement.specs.declared.line.Line.{Line}
use Rattle.dsr_statement.specs.declared.line.Line.TheVariants as lines
use Rattle.dsr_statement.specs.meaning.Statement.{head_of, files_from, lines_of_ledger, statement_lines}
use Rattle.dsr_statement.specs.meaning.Order.{placed, is_placed, adds_up, seals, is_no_report, of_latest, left_of, may_end, is_key_below, is_text_below, follows_file, follows_missing, follows_summary, follows_ledger, unclaimed_follows}
use Rattle.dsr_statement.specs.layer.Statements.{AreInPlace, IsStatement, all_adjacent, are_parties_in_order, is_before, IsReadable}
use Rattle.dsr_statement.proofs.Readers.{same_key}

-- a line that passes the tests stands where it may
pub placed_ok : (before : List Line) (l : Line) → is_placed before l ≡ true → adds_up before l ≡ true → seals before l ≡ true → is_no_report l ≡ false
    → placed before l ≡ Ok l
placed_ok before l p a s n = rw (p, a, s, n) refl

-- the latest of some lines passes
abbrev Latest : (Line → Bool) → List Line → Type 0
Latest passes before = of_latest false passes before ≡ true

latest_weaker : (p q : Line → Bool) → ((l : Line) → p l ≡ true → q l ≡ true) → (before : List Line) → Latest p before → Latest q before
latest_weaker p q weaker [] h = cc
latest_weaker p q weaker (l ∷ before) h = weaker l h

-- the lines of items, each of which may stand after the one before it
module _ {X : Type 0} (f : X → Line) (adjacent : X → X → Bool) (before_it after_it : Line → Bool) (rest : List Line)
    (first : (x : X) (before : List Line) → Latest before_it before → placed before (f x) ≡ Ok (f x))
    (next : (x y : X) (before : List Line) → adjacent x y ≡ true → placed (f x ∷ before) (f y) ≡ Ok (f y))
    (weaker : (l : Line) → before_it l ≡ true → after_it l ≡ true) (its : (x : X) → after_it (f x) ≡ true)
    (then : (before : List Line) → Latest after_it before → AreInPlace before rest) where
  others_in_place : (x : X) (xs : List X) (before : List Line) → all_adjacent adjacent (x ∷ xs) ≡ true → AreInPlace (f x ∷ before) (map f xs ++ rest)
  others_in_place x [] before h = then (f x ∷ before) (its x)
  others_in_place x (y ∷ ys) before h =
      let both = and_parts (adjacent x y) (all_adjacent adjacent (y ∷ ys)) h in
      (next x y before both.0, others_in_place y ys (f x ∷ before) both.1)

  part_in_place : (xs : List X) (before : List Line) → Latest before_it before → all_adjacent adjacent xs ≡ true → AreInPlace before (map f xs ++ rest)
  part_in_place [] before p h = then before (latest_weaker before_it after_it weaker before p)
  part_in_place (x ∷ xs) before p h = (first x before p, others_in_place x xs before h)

-- what may stand after a part may stand after the parts before it
file_missing : (l : Line) → follows_file l ≡ true → follows_missing l ≡ true
file_missing l h = grind arith

missing_summary : (l : Line) → follows_missing l ≡ true → follows_summary l ≡ true
missing_summary l h = grind arith

summary_ledger : (l : Line) → follows_summary l ≡ true → follows_ledger l ≡ true
summary_ledger l h = grind arith

ledger_ends : (l : Line) → follows_ledger l ≡ true → may_end l ≡ true
ledger_ends l h = grind arith

missing_first : (n : ℕ) (before : List Line) → Latest follows_file before → placed before (lines.Missing n) ≡ Ok (lines.Missing n)
missing_first n (lines.File place f ∷ before) h = refl
missing_first n _ h = cc

summary_first : (d : Difference) (before : List Line) → Latest follows_missing before → placed before (lines.Summary d) ≡ Ok (lines.Summary d)
summary_first d (lines.File place f ∷ before) h = refl
summary_first d _ h = cc

reject_first : (r : Reject) (before : List Line) → Latest follows_ledger before → placed before (lines.Reject r) ≡ Ok (lines.Reject r)
reject_first r (lines.File place f ∷ before) h = refl
reject_first r _ h = cc

rejects_in_place : (rs : List Reject) (before : List Line) → Latest follows_ledger before → all_adjacent is_before rs ≡ true
    → AreInPlace before (map (λ x. lines.Reject x) rs ++ [])
rejects_in_place rs before p h =
    part_in_place (λ (x : Reject). lines.Reject x) is_before follows_ledger may_end [] reject_first
    (λ x y b q. placed_ok (lines.Reject x ∷ b) (lines.Reject y) q refl refl refl) ledger_ends (λ x. refl) (λ b q. q) rs before p h

differences_in_place : (ds : List Difference) (rest before : List Line)
    → ((b : List Line) → Latest follows_summary b → AreInPlace b rest)
    → Latest follows_missing before → all_adjacent (λ a b. nat_le a.file b.file) ds ≡ true → AreInPlace before (map (λ d. lines.Summary d) ds ++ rest)
differences_in_place ds rest before then p h =
    part_in_place (λ (d : Difference). lines.Summary d) (λ a b. nat_le a.file b.file) follows_missing follows_summary rest summary_first
    (λ x y b q. placed_ok (lines.Summary x ∷ b) (lines.Summary y) q refl refl refl) missing_summary (λ x. refl) then ds before p h

missing_in_place : (ns : List ℕ) (rest before : List Line)
    → ((b : List Line) → Latest follows_missing b → AreInPlace b rest)
    → Latest follows_file before → all_adjacent nat_lt ns ≡ true → AreInPlace before (map (λ n. lines.Missing n) ns ++ rest)
missing_in_place ns rest before then p h =
    part_in_place (λ (n : ℕ). lines.Missing n) nat_lt follows_file follows_missing rest missing_first
    (λ x y b q. placed_ok (lines.Missing x ∷ b) (lines.Missing y) q refl refl refl) file_missing (λ x. refl) then ns before p h

key_itself : (key : Key) → key_eq key key ≡ true
key_itself key = (same_key key key).1 refl

-- the unclaimed amount stands after the parties that leave it
unclaimed_in_place : (key : Key) (before : List Line) (amount : ℤ) → of_latest false (unclaimed_follows key) before ≡ true → left_of before ≡ amount
    → placed before (lines.Unclaimed key amount) ≡ Ok (lines.Unclaimed key amount)
unclaimed_in_place key before amount p left =
    placed_ok before (lines.Unclaimed key amount) p ((Decides-int_eq amount (left_of before)).1 (sym left)) refl refl

taken : (left amount others unclaimed : ℤ) → left ≡ (amount +ℤ others) +ℤ unclaimed → left -ℤ amount ≡ others +ℤ unclaimed
taken left amount others unclaimed e = omega (arith, ints)

-- the parties after a party, and then the unclaimed amount
parties_after : (key : Key) (q : PartyLine) (ps : List PartyLine) (before rest : List Line) (unclaimed : ℤ)
    → ((b : List Line) → AreInPlace (lines.Unclaimed key unclaimed ∷ b) rest)
    → all_adjacent (λ x y. is_text_below x.party y.party) (q ∷ ps) ≡ true
    → left_of (lines.Party key q ∷ before) ≡ int_sum_by (λ p. p.amount) ps +ℤ unclaimed
    → AreInPlace (lines.Party key q ∷ before) (map (λ p. lines.Party key p) ps ++ lines.Unclaimed key unclaimed ∷ rest)
parties_after key q [] before rest unclaimed then h left =
    (unclaimed_in_place key (lines.Party key q ∷ before) unclaimed (key_itself key) (left ∙ omega (arith, ints)), then (lines.Party key q ∷ before))
parties_after key q (p ∷ ps) before rest unclaimed then h left =
    let both = and_parts (is_text_below q.party p.party) (all_adjacent (λ x y. is_text_below x.party y.party) (p ∷ ps)) h in (
      placed_ok (lines.Party key q ∷ before) (lines.Party key p) (and_from _ _ (key_itself key) both.0) refl refl refl,
      parties_after key p ps (lines.Party key q ∷ before) rest unclaimed then both.1
          (taken (left_of (lines.Party key q ∷ before)) p.amount (int_sum_by (λ x. x.amount) ps) unclaimed left),
    )

-- the lines after the sums of a ledger line
ledger_after : (l : LedgerLine) (before rest : List Line)
    → ((b : List Line) → AreInPlace (lines.Unclaimed (key_of_line l) l.unclaimed ∷ b) rest)
    → are_parties_in_order l ≡ true → AddsUp l
    → AreInPlace (lines.Ledger (key_of_line l) l.usages l.amount ∷ before)
    (map (λ p. lines.Party (key_of_line l) p) l.parties ++ lines.Unclaimed (key_of_line l) l.unclaimed ∷ rest)
ledger_after l before rest then h sum = go l.parties h sum
  where
    key : Key
    key = key_of_line l

    go : (ps : List PartyLine) → all_adjacent (λ x y. is_text_below x.party y.party) ps ≡ true → int_sum_by (λ p. p.amount) ps +ℤ l.unclaimed ≡ l.amount
        → AreInPlace (lines.Ledger (key_of_line l) l.usages l.amount ∷ before)
        (map (λ p. lines.Party (key_of_line l) p) ps ++ lines.Unclaimed (key_of_line l) l.unclaimed ∷ rest)
    go [] o s = (
      unclaimed_in_place (key_of_line l) (lines.Ledger (key_of_line l) l.usages l.amount ∷ before) l.unclaimed (key_itself (key_of_line l)) (sym s ∙ omega (arith, ints)),
      then (lines.Ledger (key_of_line l) l.usages l.amount ∷ before),
    )
    go (p ∷ ps) o s = (
      placed_ok (lines.Ledger (key_of_line l) l.usages l.amount ∷ before) (lines.Party (key_of_line l) p) (key_itself (key_of_line l)) refl refl refl,
      parties_after (key_of_line l) p ps (lines.Ledger (key_of_line l) l.usages l.amount ∷ before) rest l.unclaimed then o
          (taken l.amount p.amount (int_sum_by (λ x. x.amount) ps) l.unclaimed (sym s)),
    )

-- the lines of a ledger line, and those after them
abbrev block : LedgerLine → List Line → List Line
block l rest =
    lines.Ledger (key_of_line l) l.usages l.amount ∷ (map (λ p. lines.Party (key_of_line l) p) l.parties
    ++ lines.Unclaimed (key_of_line l) l.unclaimed ∷ rest)

block_lines : (l : LedgerLine) (ls : List LedgerLine) (rest : List Line)
    → flat_map lines_of_ledger (l ∷ ls) ++ rest ≡ block l (flat_map lines_of_ledger ls ++ rest)
block_lines l ls rest =
    ap (λ t. t ++ rest) (flat_map-cons lines_of_ledger l ls) ∙ append_assoc (lines_of_ledger l) (flat_map lines_of_ledger ls) rest
    ∙ ap (λ t. lines.Ledger (key_of_line l) l.usages l.amount ∷ t)
    (append_assoc (map (λ (p : PartyLine). lines.Party (key_of_line l) p) l.parties) (lines.Unclaimed (key_of_line l) l.unclaimed ∷ []) (flat_map lines_of_ledger ls ++ rest))

ledger_first : (l : LedgerLine) (before : List Line) → Latest follows_summary before
    → placed before (lines.Ledger (key_of_line l) l.usages l.amount) ≡ Ok (lines.Ledger (key_of_line l) l.usages l.amount)
ledger_first l (lines.File place f ∷ before) h = refl
ledger_first l _ h = cc

ledgers_after : (l : LedgerLine) (ls : List LedgerLine) (before rest : List Line)
    → ((b : List Line) → Latest follows_ledger b → AreInPlace b rest)
    → all_adjacent (λ a b. is_key_below (key_of_line a) (key_of_line b)) (l ∷ ls) ≡ true → list_all are_parties_in_order ls ≡ true
    → AllByRecursion AddsUp ls
    → AreInPlace (lines.Unclaimed (key_of_line l) l.unclaimed ∷ before) (flat_map lines_of_ledger ls ++ rest)
ledgers_after l [] before rest then h o s = then (lines.Unclaimed (key_of_line l) l.unclaimed ∷ before) refl
ledgers_after l (m ∷ ms) before rest then h o s =
    let keys = and_parts (is_key_below (key_of_line l) (key_of_line m)) (all_adjacent (λ a b. is_key_below (key_of_line a) (key_of_line b)) (m ∷ ms)) h in
    let parties = and_parts (are_parties_in_order m) (list_all are_parties_in_order ms) o in
    let before_it = lines.Unclaimed (key_of_line l) l.unclaimed ∷ before in
    let here = placed_ok before_it (lines.Ledger (key_of_line m) m.usages m.amount) keys.0 refl refl refl in
    let all : AreInPlace before_it (block m (flat_map lines_of_ledger ms ++ rest)) =
    (here, ledger_after m before_it (flat_map lines_of_ledger ms ++ rest) (λ b. ledgers_after m ms b rest then keys.1 parties.1 s.1) parties.0 s.0) in
    subst (λ (t : List Line). AreInPlace before_it t) (sym (block_lines m ms rest)) all

ledgers_in_place : (ls : List LedgerLine) (rest before : List Line)
    → ((b : List Line) → Latest follows_ledger b → AreInPlace b rest)
    → Latest follows_summary before → all_adjacent (λ a b. is_key_below (key_of_line a) (key_of_line b)) ls ≡ true → list_all are_parties_in_order ls ≡ true
    → AllByRecursion AddsUp ls
    → AreInPlace before (flat_map lines_of_ledger ls ++ rest)
ledgers_in_place [] rest before then p h o s = then before (latest_weaker follows_summary follows_ledger summary_ledger before p)
ledgers_in_place (l ∷ ls) rest before then p h o s =
    let parties = and_parts (are_parties_in_order l) (list_all are_parties_in_order ls) o in
    let all : AreInPlace before (block l (flat_map lines_of_ledger ls ++ rest)) =
    (ledger_first l before p, ledger_after l before (flat_map lines_of_ledger ls ++ rest) (λ b. ledgers_after l ls b rest then h parties.1 s.1) parties.0 s.0) in
    subst (λ (t : List Line). AreInPlace before t) (sym (block_lines l ls rest)) all

files_after : (place : ℕ) (g : FileLine) (fs : List FileLine) (rest before : List Line)
    → ((b : List Line) → Latest follows_file b → AreInPlace b rest)
    → AreInPlace (lines.File place g ∷ before) (files_from (suc place) fs ++ rest)
files_after place g [] rest before then = then (lines.File place g ∷ before) refl
files_after place g (f ∷ fs) rest before then = (
  placed_ok (lines.File place g ∷ before) (lines.File (suc place) f) (eq-eqb (suc place) (suc place) refl) refl refl refl,
  files_after (suc place) f fs rest (lines.File place g ∷ before) then,
)

files_in_place : (key : ReportKey) (fs : List FileLine) (rest : List Line) → 0 < length fs
    → ((b : List Line) → Latest follows_file b → AreInPlace b rest)
    → AreInPlace (lines.Report key ∷ []) (files_from 1 fs ++ rest)
files_in_place key [] rest some then = absurd (omega arith)
files_in_place key (f ∷ fs) rest some then = (refl, files_after 1 f fs rest (lines.Report key ∷ []) then)

-- the lines after the first one
abbrev tail_of : Report → List Line → List Line
tail_of r last =
    files_from 1 r.files ++ (map (λ n. lines.Missing n) r.missing ++ (map (λ d. lines.Summary d) r.differences
    ++ (flat_map lines_of_ledger r.ledger ++ last)))

tail_in_place : (key : ReportKey) (r : Report) → IsReadable key r → AreInPlace (lines.Report key ∷ []) (tail_of r (map (λ x. lines.Reject x) r.rejects ++ []))
tail_in_place key r h =
    let rejects = map (λ (x : Reject). lines.Reject x) r.rejects ++ [] in
    let ledger = flat_map lines_of_ledger r.ledger ++ rejects in
    let differences = map (λ (d : Difference). lines.Summary d) r.differences ++ ledger in
    let missing = map (λ (n : ℕ). lines.Missing n) r.missing ++ differences in
    files_in_place key r.files missing h.files
    (λ b p. missing_in_place r.missing differences b
    (λ c q. differences_in_place r.differences ledger c
    (λ d s. ledgers_in_place r.ledger rejects d (λ e t. rejects_in_place r.rejects e t h.rejects) s h.ledger h.parties h.sums)
    q h.differences)
    p h.missing)

places : (key : ReportKey) (r : Report) → IsReadable key r → AreInPlace [] (statement_lines r)
places key r h =
    let end : map (λ (x : Reject). lines.Reject x) r.rejects ++ [] ≡ map (λ (x : Reject). lines.Reject x) r.rejects = append-nil (map (λ (x : Reject). lines.Reject x) r.rejects) in
    let tail : AreInPlace (lines.Report key ∷ []) (tail_of r (map (λ x. lines.Reject x) r.rejects)) =
    subst (λ (t : List Line). AreInPlace (lines.Report key ∷ []) (tail_of r t)) end (tail_in_place key r h) in
    let all : AreInPlace [] (lines.Report key ∷ tail_of r (map (λ x. lines.Reject x) r.rejects)) = (refl, tail) in
    subst (λ (k : Option ReportKey). AreInPlace [] (head_of k ∷ tail_of r (map (λ x. lines.Reject x) r.rejects))) (sym h.key) all

-- the lines of a readable report are a statement
pub is_statement : (key : ReportKey) (r : Report) → IsReadable key r → IsStatement (statement_lines r)
is_statement key r h = record { spelled = h.spelled; texts = h.texts; places = places key r h }
