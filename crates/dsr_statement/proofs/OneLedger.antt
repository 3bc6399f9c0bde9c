-- A statement has one ledger.
use Rattle.std.proofs.Common.{◌≡◌, ℕ, suc, List, [], ◌∷◌, ◌++◌, map, false, refl, ap, sym, subst, ◌∙◌, Ok, append_assoc}
use Rattle.std.specs.Prelude.{ℤ, pos}
use Rattle.std.specs.List.{flat_map}
use Rattle.std.proofs.lemmas.List.Concat.{flat_map-cons}
use Rattle.dsr_ledger.specs.meaning.Bookings.{Key}
use Rattle.dsr_ledger.specs.meaning.Laws.{key_of_line}
use Rattle.dsr_ledger.specs.declared.report.ReportKey.{ReportKey}
use Rattle.dsr_ledger.specs.declared.report.FileLine.{FileLine}
use Rattle.dsr_ledger.specs.declared.report.Difference.{Difference}
use Rattle.dsr_ledger.specs.declared.report.PartyLine.{PartyLine}
use Rattle.dsr_ledger.specs.declared.report.LedgerLine.{LedgerLine}
use Rattle.dsr_ledger.specs.declared.report.Reject.{Reject}
use Rattle.dsr_ledger.specs.declared.report.Report.{Report}
use Rattle.dsr_statement.specs.declared.line.Line.{Line}
use Rattle.dsr_statement.specs.declared.line.Line.TheVariants as lines
use Rattle.dsr_statement.specs.meaning.Statement.{head_of, files_from, lines_of_ledger, statement_lines, statement_of}
use Rattle.dsr_statement.specs.layer.Readings.{IsReading}
use Rattle.dsr_statement.specs.layer.Statements.{IsReadable}
use Rattle.dsr_statement.proofs.OneReading.{one_reading}
use Rattle.dsr_statement.proofs.ReportAgain.{report_again}

-- the ledger of some lines, and before it the parties and the unclaimed amount of a line that has not begun
record Gathered : Type 0 where
  ledger : List LedgerLine
  parties : List PartyLine
  unclaimed : ℤ

abbrev with_unclaimed : ℤ → Gathered → Gathered
with_unclaimed amount g = record { ledger = g.ledger; parties = []; unclaimed = amount }

abbrev with_party : PartyLine → Gathered → Gathered
with_party p g = record { ledger = g.ledger; parties = p ∷ g.parties; unclaimed = g.unclaimed }

abbrev with_sums : Key → ℤ → ℤ → Gathered → Gathered
with_sums key usages amount g = record {
  ledger = record {
    isrc = key.isrc;
    territory = key.territory;
    use_type = key.use_type;
    currency = key.currency;
    usages = usages;
    amount = amount;
    parties = g.parties;
    unclaimed = g.unclaimed;
  }
      ∷ g.ledger;
  parties = [];
  unclaimed = pos 0;
}

abbrev gather : List Line → Gathered
gather [] = record { ledger = []; parties = []; unclaimed = pos 0 }
gather (lines.Ledger key usages amount ∷ ls) = with_sums key usages amount (gather ls)
gather (lines.Party key p ∷ ls) = with_party p (gather ls)
gather (lines.Unclaimed key amount ∷ ls) = with_unclaimed amount (gather ls)
gather (_ ∷ ls) = gather ls

gather_parties : (key : Key) (ps : List PartyLine) (unclaimed : ℤ) (rest : List Line)
    → gather (map (λ p. lines.Party key p) ps ++ lines.Unclaimed key unclaimed ∷ rest) ≡ record { ledger = (gather rest).ledger; parties = ps; unclaimed = unclaimed }
gather_parties key [] unclaimed rest = refl
gather_parties key (p ∷ ps) unclaimed rest = ap (with_party p) (gather_parties key ps unclaimed rest)

gather_block : (l : LedgerLine) (rest : List Line) → (gather (lines_of_ledger l ++ rest)).ledger ≡ l ∷ (gather rest).ledger
gather_block l rest =
    let parties = map (λ (p : PartyLine). lines.Party (key_of_line l) p) l.parties in
    let cut : (parties ++ lines.Unclaimed (key_of_line l) l.unclaimed ∷ []) ++ rest ≡ parties ++ lines.Unclaimed (key_of_line l) l.unclaimed ∷ rest =
    append_assoc parties (lines.Unclaimed (key_of_line l) l.unclaimed ∷ []) rest in
    ap (λ t. (with_sums (key_of_line l) l.usages l.amount (gather t)).ledger) cut
    ∙ ap (λ g. (with_sums (key_of_line l) l.usages l.amount g).ledger) (gather_parties (key_of_line l) l.parties l.unclaimed rest)

gather_ledger : (ls : List LedgerLine) (rest : List Line) → (gather rest).ledger ≡ [] → (gather (flat_map lines_of_ledger ls ++ rest)).ledger ≡ ls
gather_ledger [] rest none = none
gather_ledger (l ∷ ls) rest none =
    let cut : flat_map lines_of_ledger (l ∷ ls) ++ rest ≡ lines_of_ledger l ++ (flat_map lines_of_ledger ls ++ rest) =
    ap (λ t. t ++ rest) (flat_map-cons lines_of_ledger l ls) ∙ append_assoc (lines_of_ledger l) (flat_map lines_of_ledger ls) rest in
    ap (λ t. (gather t).ledger) cut ∙ gather_block l (flat_map lines_of_ledger ls ++ rest) ∙ ap (λ t. l ∷ t) (gather_ledger ls rest none)

gather_rejects : (rs : List Reject) → (gather (map (λ x. lines.Reject x) rs)).ledger ≡ []
gather_rejects [] = refl
gather_rejects (r ∷ rs) = gather_rejects rs

gather_differences : (ds : List Difference) (rest : List Line) → gather (map (λ d. lines.Summary d) ds ++ rest) ≡ gather rest
gather_differences [] rest = refl
gather_differences (d ∷ ds) rest = gather_differences ds rest

gather_missing : (ns : List ℕ) (rest : List Line) → gather (map (λ n. lines.Missing n) ns ++ rest) ≡ gather rest
gather_missing [] rest = refl
gather_missing (n ∷ ns) rest = gather_missing ns rest

gather_files : (place : ℕ) (fs : List FileLine) (rest : List Line) → gather (files_from place fs ++ rest) ≡ gather rest
gather_files place [] rest = refl
gather_files place (f ∷ fs) rest = gather_files (suc place) fs rest

-- the ledger of a report is that of its lines
gather_report : (key : ReportKey) (r : Report) → IsReadable key r → (gather (statement_lines r)).ledger ≡ r.ledger
gather_report key r h =
    let rejects = map (λ (x : Reject). lines.Reject x) r.rejects in
    let ledger = flat_map lines_of_ledger r.ledger ++ rejects in
    let differences = map (λ (d : Difference). lines.Summary d) r.differences ++ ledger in
    let missing = map (λ (n : ℕ). lines.Missing n) r.missing ++ differences in
    ap (λ k. (gather (head_of k ∷ (files_from 1 r.files ++ missing))).ledger) h.key
    ∙ ap (λ g. g.ledger) (gather_files 1 r.files missing ∙ gather_missing r.missing differences ∙ gather_differences r.differences ledger)
    ∙ gather_ledger r.ledger rejects (gather_rejects r.rejects)

-- two readable reports with one statement have one ledger
pub one_ledger : (k l : ReportKey) (a b : Report) → IsReadable k a → IsReadable l b → statement_of a ≡ statement_of b → a.ledger ≡ b.ledger
one_ledger k l a b p q same =
    let other = subst (λ (t : List ℕ). IsReading t (Ok (statement_lines b))) (sym same) (report_again l b q) in
    let read = one_reading (statement_of a) false (Ok (statement_lines a)) (Ok (statement_lines b)) (report_again k a p) other in
    let lines_ : statement_lines a ≡ statement_lines b = cc in
    sym (gather_report k a p) ∙ ap (λ t. (gather t).ledger) lines_ ∙ gather_report l b q
