-- What a command line asks for. How its words are parsed by a command's rules is clap's definition.
use Rattle.std.specs.Prelude.{◌≡◌, ◌≢◌, ◌≤◌, ℕ, Bool, pos, true, false, List, [], Option, Some, None, codes, unwrap_or}
use Rattle.std.specs.Str.Parse.{IsNumeral, digits_value, without_leading_plus}
use Rattle.clap.specs.Lexer.{usize_max}
use Rattle.clap.specs.Words.{App, Row, Rule, Text, all_of, fault_of, first_of, matches_of, new_app, new_rule, one_of, with_rule}
use Rattle.clap.specs.Simple.{on_top}
use Rattle.clap.specs.declared.builder.action.ArgAction.TheVariants.{Set, SetTrue, Append}
use Rattle.clap.specs.declared.builder.value_parser.ValueParser.TheVariants as vp
use Rattle.clap.specs.Kinds.{Kinds, IsAmong}
use Rattle.clap.specs.declared.error.kind.ErrorKind.{ErrorKind}
use Rattle.clap.specs.declared.error.kind.ErrorKind.TheVariants.{DisplayHelp, DisplayVersion, OutOfMemory}
use Rattle.dsr_command.specs.declared.command.Asked.{Asked}
use Rattle.dsr_command.specs.declared.command.CommandFault.{CommandFault}
use Rattle.dsr_command.specs.declared.command.CommandFault.TheVariants.{Help, Refused, Memory}

-- an option with one value
abbrev pub option_rule : Text → Rule
option_rule name = record (new_rule name) { long = Some name; action = Some Set; value_names = 1 }

-- the same, which has a letter too
abbrev pub letter_rule : ℕ → Text → Rule
letter_rule letter name = record (option_rule name) { short = Some letter }

-- an option with one value, a whole number from 1 to `most`, inclusive
abbrev pub number_rule : Text → ℕ → Rule
number_rule name most = record (option_rule name) { parser = Some (vp.Signed (pos 1) (pos most)) }

-- `--output FILE`, or `-o FILE`
abbrev pub output_rule : Rule
output_rule = letter_rule 111 (codes "output")

-- an option without a value
abbrev pub flag_rule : Text → Rule
flag_rule name = record (new_rule name) { long = Some name; action = Some SetTrue }

-- the positional arguments: any number of names
abbrev pub names_rule : Text → Rule
names_rule name = record (new_rule name) {
  action = Some Append;
  range = Some (record { start_inclusive = 0; end_inclusive = usize_max });
}

-- the program's command before its arguments; the program's name is not among the words that it parses
unfoldable pub bare_command : App
bare_command = on_top (λ s. record s { no_binary_name = true; has_version = true }) (new_app (codes "dsr"))

-- the program's command, with its six options and the file names
unfoldable pub command_line : App
command_line = with_rule (with_rule (with_rule (with_rule (with_rule (with_rule (with_rule bare_command
    (number_rule (codes "capacity") 1024)) (number_rule (codes "max-reads") 16777216))
    (option_rule (codes "layout"))) output_rule) (flag_rule (codes "progress"))) (flag_rule (codes "seal")))
    (names_rule (codes "FILE"))

-- the number is the one given, or the default if none is given
abbrev pub IsNumberAsked : ℕ → ℕ → Option Text → ℕ → Type 0
IsNumberAsked standard most None number = number ≡ standard
IsNumberAsked standard most (Some text) number = IsNumeral 10 (without_leading_plus text)
    → 1 ≤ digits_value 10 (without_leading_plus text)
    → digits_value 10 (without_leading_plus text) ≤ most
    → number ≡ digits_value 10 (without_leading_plus text)

-- the flag is true if it is given, and false if it is not
abbrev pub IsFlagAsked : Option Text → Bool → Type 0
IsFlagAsked None flag = flag ≡ false
IsFlagAsked (Some text) flag = (text ≡ codes "true" → flag ≡ true) × (text ≡ codes "false" → flag ≡ false)

-- what the parsed rows of a command line ask for
pub record IsAskedBy (rows : List Row) (asked : Asked) : Type 0 where
  pub capacity : IsNumberAsked 16 1024 (one_of (codes "capacity") rows) asked.capacity
  pub reads : IsNumberAsked 4194304 16777216 (one_of (codes "max-reads") rows) asked.max_reads
  pub files : asked.files ≡ unwrap_or (all_of (codes "FILE") rows) []
  pub layout : asked.layout ≡ first_of (codes "layout") rows
  pub output : asked.output ≡ first_of (codes "output") rows
  pub progress : IsFlagAsked (one_of (codes "progress") rows) asked.progress
  pub seal : IsFlagAsked (one_of (codes "seal") rows) asked.seal

-- the kind of error that stands for a text that was asked for: the help or the version
abbrev pub is_request : ErrorKind → Bool
is_request DisplayHelp = true
is_request DisplayVersion = true
is_request _ = false

-- the answer to an error of this kind; memory may be refused in any case
abbrev pub Answers : ErrorKind → CommandFault → Type 0
Answers kind (Help text) = is_request kind ≡ true
Answers kind (Refused text) = (is_request kind ≡ false) × (kind ≢ OutOfMemory)
Answers kind Memory = Unit {0}

-- the answer to a command line that has errors of these kinds: a text if one of them asks for it, or a refusal if one of them
-- does not; memory may be refused in any case
abbrev pub IsFaultOf : Kinds → CommandFault → Type 0
IsFaultOf kinds (Help text) = (kind : ErrorKind) × IsAmong kind kinds × (is_request kind ≡ true)
IsFaultOf kinds (Refused text) = (kind : ErrorKind) × IsAmong kind kinds × (is_request kind ≡ false)
IsFaultOf kinds Memory = Unit {0}

-- these words ask for this run: they have no fault, and it is what their rows ask for
abbrev pub IsAskedFor : List Text → Asked → Type 0
IsAskedFor words asked = (fault_of command_line words ≡ []) × IsAskedBy (matches_of command_line words) asked

-- these words ask for no run, and this is the answer to them
abbrev pub IsFaultFor : List Text → CommandFault → Type 0
IsFaultFor words fault = IsFaultOf (fault_of command_line words) fault
