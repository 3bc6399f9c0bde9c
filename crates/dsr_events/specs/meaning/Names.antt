-- The names of the columns and of the faults, as they are printed, and outcomes of which memory is the cause.
use Rattle.std.specs.Prelude.{ℕ, List, codes, Option, None, Some}
use Rattle.dsr_events.specs.declared.kinds.Column.{Column}
use Rattle.dsr_events.specs.declared.kinds.Column.TheVariants.{MessageId, FileNumber, NumberOfFiles, UsageStartDate, UsageEndDate, Sender, Recipient, SummaryRecordId, Territory, UseType, Currency, Usages, Amount, BlockId, Isrc, Titles, Artists, WorkId, Title, Parties, Shares, NumberOfLinesInFile, NumberOfSummaryRecords, NumberOfBlocksInFile}
use Rattle.dsr_events.specs.declared.fault.FileFault.{FileFault}
use Rattle.dsr_events.specs.declared.fault.FileFault.TheVariants.{LongLine, NotUtf8, ManyCells, UnknownRecord, MissingCell, BadCell, Uneven, NoHead, SecondHead, LateSummary, NoResource, LateWork, BlockNumber, NoUsage, AfterFoot, NoFoot, SummaryTwice, ManySummaries, LongBlock, FootLines, FootSummaries, FootBlocks, Read, Reads, Memory}

-- the name of each column
abbrev pub column_name : Column → List ℕ
column_name MessageId = codes "MessageId"
column_name FileNumber = codes "FileNumber"
column_name NumberOfFiles = codes "NumberOfFiles"
column_name UsageStartDate = codes "UsageStartDate"
column_name UsageEndDate = codes "UsageEndDate"
column_name Sender = codes "Sender"
column_name Recipient = codes "Recipient"
column_name SummaryRecordId = codes "SummaryRecordId"
column_name Territory = codes "Territory"
column_name UseType = codes "UseType"
column_name Currency = codes "Currency"
column_name Usages = codes "Usages"
column_name Amount = codes "Amount"
column_name BlockId = codes "BlockId"
column_name Isrc = codes "Isrc"
column_name Titles = codes "Titles"
column_name Artists = codes "Artists"
column_name WorkId = codes "WorkId"
column_name Title = codes "Title"
column_name Parties = codes "Parties"
column_name Shares = codes "Shares"
column_name NumberOfLinesInFile = codes "NumberOfLinesInFile"
column_name NumberOfSummaryRecords = codes "NumberOfSummaryRecords"
column_name NumberOfBlocksInFile = codes "NumberOfBlocksInFile"

abbrev pub name_of : FileFault → List ℕ
name_of LongLine = codes "LongLine"
name_of NotUtf8 = codes "NotUtf8"
name_of ManyCells = codes "ManyCells"
name_of UnknownRecord = codes "UnknownRecord"
name_of (MissingCell column) = codes "MissingCell"
name_of (BadCell column) = codes "BadCell"
name_of Uneven = codes "Uneven"
name_of NoHead = codes "NoHead"
name_of SecondHead = codes "SecondHead"
name_of LateSummary = codes "LateSummary"
name_of NoResource = codes "NoResource"
name_of LateWork = codes "LateWork"
name_of BlockNumber = codes "BlockNumber"
name_of NoUsage = codes "NoUsage"
name_of AfterFoot = codes "AfterFoot"
name_of NoFoot = codes "NoFoot"
name_of SummaryTwice = codes "SummaryTwice"
name_of ManySummaries = codes "ManySummaries"
name_of LongBlock = codes "LongBlock"
name_of FootLines = codes "FootLines"
name_of FootSummaries = codes "FootSummaries"
name_of FootBlocks = codes "FootBlocks"
name_of Read = codes "Read"
name_of Reads = codes "Reads"
name_of Memory = codes "Memory"

-- the column of a missing or bad cell
abbrev pub column_named : FileFault → Option Column
column_named (MissingCell column) = Some column
column_named (BadCell column) = Some column
column_named _ = None
