-- What a command line asks for. How its words are parsed by a command's rules is clap's definition.
use Rattle.std.specs.Prelude.{◌≡◌, ◌⊎◌, ◌++◌, ◌∷◌, Bool, true, false, not, List, [], Some, codes, unwrap_or}
use Rattle.std.specs.List.{list_any, take_while}
use Rattle.std.specs.Str.{bytes_eq}
use Rattle.clap.specs.Words.{App, Row, Rule, Text, all_of, fault_of, first_of, matches_of, new_app, new_rule, one_of, with_rule}
use Rattle.clap.specs.Simple.{on_top}
use Rattle.clap.specs.declared.builder.action.ArgAction.TheVariants.{Append}
use Rattle.dsr_command.specs.CommandLine.{IsFaultOf, IsFlagAsked, flag_rule, names_rule, output_rule}
use Rattle.dsr_command.specs.declared.command.CommandFault.{CommandFault}
use Rattle.dsr_command.specs.declared.command.CommandFault.TheVariants.{Help, Refused, Memory}
use Rattle.dsr_totals.specs.declared.command.Asked.{Asked}

-- an option with one value, which may be given any number of times
abbrev pub list_rule : Text → Rule
list_rule name = record (new_rule name) { long = Some name; action = Some Append; value_names = 1 }

-- the program's command before its arguments; the program's name is not among the words that it parses
unfoldable pub bare_command : App
bare_command = on_top (λ s. record s { no_binary_name = true; has_version = true }) (new_app (codes "dsr_totals"))

-- the program's command, with its six options and the names of statements
unfoldable pub command_line : App
command_line = with_rule (with_rule (with_rule (with_rule (with_rule (with_rule (with_rule bare_command
    (list_rule (codes "paid"))) (list_rule (codes "paid-from"))) (flag_rule (codes "with-remarks")))
    (flag_rule (codes "unsealed"))) (flag_rule (codes "same-message"))) output_rule)
    (names_rule (codes "STATEMENT"))

-- what the parsed rows of a command line ask for
pub record IsAskedBy (rows : List Row) (asked : Asked) : Type 0 where
  pub given : asked.given ≡ unwrap_or (all_of (codes "STATEMENT") rows) []
  pub paid : asked.paid ≡ unwrap_or (all_of (codes "paid") rows) []
  pub lists : asked.lists ≡ unwrap_or (all_of (codes "paid-from") rows) []
  pub with_remarks : IsFlagAsked (one_of (codes "with-remarks") rows) asked.rules.with_remarks
  pub unsealed : IsFlagAsked (one_of (codes "unsealed") rows) asked.rules.unsealed
  pub same_message : IsFlagAsked (one_of (codes "same-message") rows) asked.rules.same_message
  pub output : asked.output ≡ first_of (codes "output") rows

-- a word before a `--` is `--paid`, without its equals sign and the name of a statement: what follows might be a given statement
abbrev pub lacks_equals : List Text → Bool
lacks_equals words = list_any (λ w. bytes_eq w (codes "--paid")) (take_while (λ w. not (bytes_eq w (codes "--"))) words)

-- these words ask for these totals: they have no fault, and it is what their rows ask for
abbrev pub IsAskedFor : List Text → Asked → Type 0
IsAskedFor words asked =
    (lacks_equals words ≡ false) × (fault_of command_line words ≡ []) × IsAskedBy (matches_of command_line words) asked

-- what is said of `--paid` without its equals sign
abbrev pub no_equals : Text
no_equals = codes "error: equal sign is needed when assigning values to '--paid=<STATEMENT>'" ++ (10 ∷ 10 ∷ (codes "Usage: dsr_totals [OPTIONS] [STATEMENT]..."
    ++ (10 ∷ 10 ∷ (codes "For more information, try '--help'." ++ 10 ∷ []))))

-- the answer to it: it is refused
abbrev pub IsUnequal : CommandFault → Type 0
IsUnequal (Help text) = ⊥
IsUnequal (Refused text) = text ≡ no_equals
IsUnequal Memory = Unit {0}

-- these words ask for no totals, and this is the answer to them
abbrev pub IsFaultFor : List Text → CommandFault → Type 0
IsFaultFor words fault =
    ((lacks_equals words ≡ true) × IsUnequal fault)
    ⊎ ((lacks_equals words ≡ false) × IsFaultOf (fault_of command_line words) fault)
