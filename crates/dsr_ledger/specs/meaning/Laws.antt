-- The laws of shares, over the ledger lines of a report.
use Rattle.dsr_ledger.specs.meaning.Bookings.{Key}
use Rattle.dsr_ledger.specs.declared.report.LedgerLine.{LedgerLine}

-- the key of a line
abbrev pub key_of_line : LedgerLine → Key
key_of_line l = record { isrc = l.isrc; territory = l.territory; use_type = l.use_type; currency = l.currency }
