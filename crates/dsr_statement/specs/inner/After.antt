-- What a reader keeps of the lines that it has read.
use Rattle.std.specs.Prelude.{◌≡◌, ℕ, suc, ◌+◌, Bool, true, false, List, [], ◌∷◌, length, reverse, ◌-ℤ◌, Result, Err}
use Rattle.std.specs.Option.{option_or}
use Rattle.dsr_statement.specs.declared.line.Line.{Line}
use Rattle.dsr_statement.specs.declared.line.Line.TheVariants as lines
use Rattle.dsr_statement.specs.declared.last.Last.{Last}
use Rattle.dsr_statement.specs.declared.last.Last.TheVariants as lasts
use Rattle.dsr_statement.specs.declared.fault.StatementFault.{StatementFault}
use Rattle.dsr_statement.specs.declared.fault.ReadError.{ReadError}
use Rattle.dsr_statement.specs.declared.fault.ReadError.TheVariants as errors
use Rattle.dsr_statement.specs.declared.reader.StatementReader.{StatementReader}
use Rattle.dsr_statement.specs.meaning.Order.{left_of, files_in, of_latest}
use Rattle.dsr_statement.specs.meaning.Status.{first_remark}
use Rattle.dsr_statement.specs.inner.Near.{is_key}

-- what is kept of the last line
abbrev pub last_line : Line → Last
last_line (lines.Report key) = lasts.Report
last_line lines.NoReport = lasts.Report
last_line (lines.File place f) = lasts.File place
last_line (lines.Missing number) = lasts.Missing number
last_line (lines.Summary d) = lasts.Summary d.file
last_line (lines.Ledger key usages amount) = lasts.Ledger
last_line (lines.Party key p) = lasts.Party
last_line (lines.Unclaimed key amount) = lasts.Unclaimed
last_line (lines.Reject r) = lasts.Reject r.file r.position
last_line (lines.Layout d) = lasts.Layout
last_line (lines.Input place d) = lasts.Input place
last_line (lines.End n s) = lasts.End

-- the latest of these lines, which come latest first
abbrev pub last_of : List Line → Last
last_of [] = lasts.Start
last_of (l ∷ before) = last_line l

-- what is kept of the latest line settles a test of it, with this answer
abbrev pub Settles : Last → (Line → Bool) → Bool → Type 0
Settles last test answer = (before : List Line) → last ≡ last_of before → answer ≡ of_latest false test before

-- of a ledger line and those below it, the key, what is left and the name of the party are kept
abbrev pub KeepsLedger : StatementReader → List Line → Type 0
KeepsLedger r (lines.Ledger key usages amount ∷ before) = (r.key ≡ key) × (is_key r.key ≡ true) × (r.left ≡ amount)
KeepsLedger r (lines.Party key p ∷ before) =
    (r.key ≡ key) × (is_key r.key ≡ true) × (r.left ≡ left_of (lines.Party key p ∷ before)) × (r.party ≡ p.party)
KeepsLedger r (lines.Unclaimed key amount ∷ before) = r.key ≡ key
KeepsLedger r _ = Unit {0}

-- the reader has read these lines, the latest first
pub record IsAfter (r : StatementReader) (before : List Line) : Type 0 where
  pub last : r.last ≡ last_of before
  pub ledger : KeepsLedger r before
  pub next : r.next ≡ suc (length before)
  pub files : r.files ≡ files_in before
  pub remark : r.remark ≡ first_remark 1 (reverse before)

-- an error is one with which such results end, unless memory was refused
abbrev pub IsErrorOf : {A : Type 0} → ReadError → (Result A StatementFault → Type 0) → Type 0
IsErrorOf (errors.Fault fault) Such = Such (Err fault)
IsErrorOf errors.Memory Such = Unit {0}

-- the reader once it has noted a line with this number: whether it is of a file, and whether it is the first remark
abbrev pub noted : ℕ → Line → StatementReader → StatementReader
noted n l r = record r { files = files_in (l ∷ []) + r.files; remark = option_or r.remark (first_remark n (l ∷ [])) }

-- the reader once it has counted a line, and kept what the next line depends on of it
abbrev pub kept : StatementReader → Line → StatementReader
kept r (lines.Ledger key usages amount) = record r { next = suc r.next; last = lasts.Ledger; key = key; left = amount }
kept r (lines.Party key p) = record r { next = suc r.next; last = lasts.Party; party = p.party; left = r.left -ℤ p.amount }
kept r (lines.Unclaimed key amount) = record r { next = suc r.next; last = lasts.Unclaimed }
kept r l = noted r.next l (record r { next = suc r.next; last = last_line l })
