-- In which order the lines of a statement and of its seal stand, and which line may stand after others.
use Rattle.std.specs.Prelude.{ℕ, suc, ◌&&◌, ◌||◌, ◌==◌, nat_lt, nat_le, not, Bool, true, false, if◌then◌else◌, List, [], ◌∷◌, length, Result, Ok, Err, ℤ, pos, ◌-ℤ◌}
use Rattle.std.specs.Ordering.{int_eq, is_lt}
use Rattle.dsr_ledger.specs.meaning.Bookings.{Key, key_eq, key_cmp, text_cmp}
use Rattle.dsr_statement.specs.declared.line.Line.{Line}
use Rattle.dsr_statement.specs.declared.line.Line.TheVariants as lines
use Rattle.dsr_statement.specs.declared.fault.StatementFault.{StatementFault}
use Rattle.dsr_statement.specs.declared.fault.StatementFault.TheVariants as faults
use Rattle.dsr_statement.specs.meaning.Status.{status_of_lines, status_eq}

-- a key or a text is before another by its bytes
abbrev pub is_key_below : Key → Key → Bool
is_key_below a b = is_lt (key_cmp a b)

abbrev pub is_text_below : List ℕ → List ℕ → Bool
is_text_below a b = is_lt (text_cmp a b)

-- MISSING, SUMMARY, LEDGER, REJECT, LAYOUT and INPUT lines may stand after the last line of a part before theirs
abbrev pub follows_file : Line → Bool
follows_file (lines.File place f) = true
follows_file _ = false

abbrev pub follows_missing : Line → Bool
follows_missing (lines.Missing n) = true
follows_missing last = follows_file last

abbrev pub follows_summary : Line → Bool
follows_summary (lines.Summary d) = true
follows_summary last = follows_missing last

abbrev pub follows_ledger : Line → Bool
follows_ledger (lines.Unclaimed key amount) = true
follows_ledger last = follows_summary last

abbrev pub follows_reject : Line → Bool
follows_reject (lines.Reject r) = true
follows_reject last = follows_ledger last

abbrev pub follows_layout : Line → Bool
follows_layout (lines.Layout digest) = true
follows_layout last = follows_reject last

abbrev pub file_follows : ℕ → Line → Bool
file_follows place (lines.Report key) = place == 1
file_follows place lines.NoReport = place == 1
file_follows place (lines.File before f) = place == suc before
file_follows place _ = false

abbrev pub missing_follows : ℕ → Line → Bool
missing_follows number (lines.Missing before) = nat_lt before number
missing_follows number last = follows_file last

abbrev pub summary_follows : ℕ → Line → Bool
summary_follows file (lines.Summary d) = nat_le d.file file
summary_follows file last = follows_missing last

abbrev pub ledger_follows : Key → Line → Bool
ledger_follows key (lines.Unclaimed before amount) = is_key_below before key
ledger_follows key last = follows_summary last

abbrev pub party_follows : Key → List ℕ → Line → Bool
party_follows key party (lines.Ledger before usages amount) = key_eq before key
party_follows key party (lines.Party before p) = key_eq before key && is_text_below p.party party
party_follows key party _ = false

abbrev pub unclaimed_follows : Key → Line → Bool
unclaimed_follows key (lines.Ledger before usages amount) = key_eq before key
unclaimed_follows key (lines.Party before p) = key_eq before key
unclaimed_follows key _ = false

abbrev pub reject_follows : ℕ → ℕ → Line → Bool
reject_follows file position (lines.Reject r) = nat_lt r.file file || ((r.file == file) && nat_lt r.position position)
reject_follows file position last = follows_ledger last

-- INPUT lines have the places of the files, in order
abbrev pub input_follows : ℕ → Line → Bool
input_follows place (lines.Input before digest) = place == suc before
input_follows place last = follows_layout last && (place == 1)

-- END stands after the INPUT line of the last of so many files
abbrev pub end_follows : ℕ → Line → Bool
end_follows files (lines.Input place digest) = place == files
end_follows files _ = false

-- a line may stand right after another, where so many FILE lines stand before it
abbrev pub follows : ℕ → Line → Line → Bool
follows files (lines.Report key) last = false
follows files lines.NoReport last = false
follows files (lines.File place f) last = file_follows place last
follows files (lines.Missing number) last = missing_follows number last
follows files (lines.Summary d) last = summary_follows d.file last
follows files (lines.Ledger key usages amount) last = ledger_follows key last
follows files (lines.Party key p) last = party_follows key p.party last
follows files (lines.Unclaimed key amount) last = unclaimed_follows key last
follows files (lines.Reject r) last = reject_follows r.file r.position last
follows files (lines.Layout digest) last = follows_reject last
follows files (lines.Input place digest) last = input_follows place last && nat_le place files
follows files (lines.End count status) last = end_follows files last

-- how many of these lines are FILE lines
abbrev pub files_in : List Line → ℕ
files_in [] = 0
files_in (lines.File place f ∷ ls) = suc (files_in ls)
files_in (l ∷ ls) = files_in ls

-- the first line is REPORT or NOREPORT
abbrev pub is_first : Line → Bool
is_first (lines.Report key) = true
is_first lines.NoReport = true
is_first _ = false

-- a test of the latest of these lines, which come latest first; without one, this answer
abbrev pub of_latest : Bool → (Line → Bool) → List Line → Bool
of_latest none test [] = none
of_latest none test (last ∷ before) = test last

-- a line may stand after these lines, the latest first
abbrev pub is_placed : List Line → Line → Bool
is_placed before l = of_latest (is_first l) (follows (files_in before) l) before

-- what the lines, the latest first, leave of the amount of their latest ledger line
abbrev pub left_of : List Line → ℤ
left_of (lines.Ledger key usages amount ∷ before) = amount
left_of (lines.Party key p ∷ before) = left_of before -ℤ p.amount
left_of _ = pos 0

-- an unclaimed amount is what the parties leave of the ledger line's
abbrev pub adds_up : List Line → Line → Bool
adds_up before (lines.Unclaimed key amount) = int_eq amount (left_of before)
adds_up before _ = true

-- END has the number of the lines before it, and their status
abbrev pub seals : List Line → Line → Bool
seals before (lines.End count status) = (count == length before) && status_eq status (status_of_lines before)
seals before _ = true

abbrev pub is_no_report : Line → Bool
is_no_report lines.NoReport = true
is_no_report _ = false

-- a line after these lines, the latest first, or its fault
abbrev pub placed : List Line → Line → Result Line StatementFault
placed before l =
    if not (is_placed before l) then Err faults.Place
    else if not (adds_up before l) then Err faults.Sum
    else if not (seals before l) then Err faults.Seal
    else if is_no_report l then Err faults.NoReport
    else Ok l

-- a statement may end after END; unsealed, after a line that has a FILE line before it, and each LEDGER line its UNCLAIMED line
abbrev pub may_end : Line → Bool
may_end (lines.End count status) = true
may_end last = follows_reject last

abbrev pub is_complete : List Line → Bool
is_complete before = of_latest false may_end before

abbrev pub is_end : Line → Bool
is_end (lines.End count status) = true
is_end _ = false

-- the latest of these lines, which come latest first, is END
abbrev pub is_sealed : List Line → Bool
is_sealed before = of_latest false is_end before
