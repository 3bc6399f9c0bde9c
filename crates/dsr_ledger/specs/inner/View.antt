-- Items in the order of their names, and what a view of the ledger has given.
use Rattle.std.specs.Prelude.{◌≡◌, ℕ, List, Option, Some, All, position, map, slice_get, ◌+◌, ◌-◌, ◌≤◌, [], ◌++◌, None, MatchOption, ◌⊎◌, true, drop, filter, length, sum_by}
use Rattle.std.specs.Option.{option_and_then}
use Rattle.std.specs.Str.{bytes_eq}
use Rattle.std.specs.List.{Contains, AllByRecursion}
use Rattle.std.specs.Borrow.{Bor}
use Rattle.std.specs.List.Sorted.{IsStrictlySortedBy}
use Rattle.std.specs.Map.{keys_of}
use Rattle.std.specs.declared.cmp.Ordering.{Ordering}
use Rattle.dsr_ledger.specs.declared.ledger.line.Line.{Line}
use Rattle.dsr_ledger.specs.declared.ledger.summary_key.SummaryKey.{SummaryKey}
use Rattle.dsr_ledger.specs.inner.Recordings.{summary_key_eq, tally_at}
use Rattle.dsr_ledger.specs.inner.Numbered.{place_by, AreApart, AreBelow}
use Rattle.std.specs.Vec.Iter.{into_iter_items}
use Rattle.std.specs.declared.cmp.Ordering.TheVariants.{Less}
use Rattle.indexmap.specs.IndexMap.{get}
use Rattle.dsr_ledger.specs.declared.ledger.recording.Recording.{Recording}
use Rattle.dsr_ledger.specs.declared.ledger.Ledger.{Ledger}
use Rattle.dsr_ledger.specs.declared.view.FoundLine.{FoundLine}
use Rattle.dsr_ledger.specs.declared.view.LedgerView.{LedgerView}
use Rattle.dsr_ledger.specs.declared.view.ReportView.{ReportView}
use Rattle.dsr_ledger.specs.declared.report.LedgerLine.{LedgerLine}
use Rattle.dsr_ledger.specs.declared.report.Report.{Report}
use Rattle.dsr_ledger.specs.meaning.Bookings.{Booking, key_under, Key, text_cmp, key_cmp}
use Rattle.dsr_ledger.specs.meaning.Ledger.{at_key, ledger, line_of}
use Rattle.dsr_ledger.specs.inner.Stands.{LedgerStands}
use Rattle.dsr_ledger.specs.inner.Tallies.{key_tally}

-- a map's entries in the order of the keys: each key that has a value once, with the value
pub record AreListed {K V : Type 0} (cmp : K → K → Ordering) (at : K → Option V) (es : List (K × V)) : Type 0 where
  pub order : IsStrictlySortedBy cmp (keys_of es)
  pub own : All (λ e. at e.0 ≡ Some e.1) es
  pub all : (q : K) (v : V) → at q ≡ Some v → Contains (keys_of es) q

-- the value whose number, by `read`, is that of a key
abbrev pub numbered_by : {K V : Type 0} → (K → Option ℕ) → (V → ℕ) → List V → K → Option V
numbered_by number read vs q = option_and_then (slice_get vs) (place_by number (map read vs) q)

-- distinct numbers below n
pub record AreDistinctBelow (n : ℕ) (ns : List ℕ) : Type 0 where
  pub apart : AreApart ns
  pub below : AreBelow n ns

-- the number of a party: its place among the names
abbrev pub party_in : List (List ℕ) → List ℕ → Option ℕ
party_in parties q = position (bytes_eq q) parties

-- the number of a summary key
abbrev pub key_in : List SummaryKey → SummaryKey → Option ℕ
key_in keys k = position (summary_key_eq k) keys

-- the line of a summary key
abbrev pub line_for : List SummaryKey → List Line → SummaryKey → Option Line
line_for keys ls = numbered_by (key_in keys) (λ l. l.sums.key) ls

-- the values of borrowed keys, each with the value of what is borrowed with it
abbrev pub lent : {K V : Type 0} → List (Bor K × Bor V) → List (K × V)
lent es = map (λ e. (e.0.now, e.1.now)) es

-- the line of a summary key in a recording of the ledger, if it has a booking
abbrev pub IsBookedLine : Ledger → List ℕ → Recording → SummaryKey → Line → Type 0
IsBookedLine books isrc r k l =
    (get bytes_eq books.recordings isrc ≡ Some r) × (line_for books.summary_keys.keys (filter (λ x. x.sums.is_booked) r.lines.items) k ≡ Some l)

-- keys in order: all that have a booking, but for those of the recordings that come after them
pub record AreBefore (books : Ledger) (rest : List (List ℕ × Recording)) (keys : List Key) : Type 0 where
  pub ahead : IsStrictlySortedBy text_cmp (keys_of rest)
  pub ours : AllByRecursion (λ x. get bytes_eq books.recordings x.0 ≡ Some x.1) rest
  pub order : IsStrictlySortedBy key_cmp keys
  pub before : AllByRecursion (λ key. AllByRecursion (λ y. text_cmp key.isrc y ≡ Less) (keys_of rest)) keys
  pub all : (q : Key) → (tally_at books q).is_booked ≡ true → Contains (keys_of rest) q.isrc ⊎ Contains keys q

-- the keys of a recording's lines
abbrev pub keys_under : Option (Bor (List ℕ) × Bor Recording) → List (SummaryKey × Line) → List Key
keys_under None es = []
keys_under (Some x) es = map (key_under x.0.now) (keys_of es)

-- the lines of the recording at hand that were not given
abbrev pub lines_left : LedgerView → List (SummaryKey × Line)
lines_left from = lent (drop from.given from.lines.items)

-- the lines of these keys were given
pub record HaveGiven (from : LedgerView) (keys : List Key) : Type 0 where
  pub before : AreBefore from.books.now (lent (into_iter_items from.recordings)) (keys ++ keys_under from.at_hand (lines_left from))
  pub at_hand : MatchOption from.at_hand (length from.lines.items ≤ from.given)
      (λ x. All (λ e. IsBookedLine from.books.now x.0.now x.1.now e.0 e.1) (lent from.lines.items))

-- the key of a line that was found
abbrev pub found_key : FoundLine → Key
found_key f = key_under f.isrc.now f.key.now

-- the ledger lines of the keys that have a booking
abbrev pub booked_lines : List Booking → List Key → List LedgerLine
booked_lines bs keys = map (λ key. line_of key (at_key key bs)) (filter (λ key. (key_tally bs key).is_booked) keys)

-- the lines can be given
abbrev pub IsReady : LedgerView → Type 0
IsReady from = (keys : List Key) × HaveGiven from keys

-- of all the lines of a ledger, these were given
pub record AreGiven (from : LedgerView) (all given : List LedgerLine) : Type 0 where
  pub bookings : List Booking
  pub stand : LedgerStands from.books.now bookings
  pub all_are : all ≡ ledger bookings
  pub keys : List Key
  pub have : HaveGiven from keys
  pub given_are : given ≡ booked_lines bookings keys

-- a line with the parties of the one that was given last
abbrev pub whole_line : LedgerView → LedgerLine → LedgerLine
whole_line from l = record l { parties = from.parties.items }

-- at most so many lines come
abbrev pub most_left : LedgerView → ℕ
most_left from = (length from.lines.items - from.given) + sum_by (λ x. 1 + length x.1.now.lines.items) (into_iter_items from.recordings)

-- this report is lent; of its ledger's lines none was given, or it has them itself
pub record IsViewOf (from : ReportView) (report : Report) : Type 0 where
  pub others : from.report.now ≡ record report { ledger = from.report.now.ledger }
  pub ledger : MatchOption from.ledger (from.report.now.ledger ≡ report.ledger) (λ lines. AreGiven lines report.ledger [])
