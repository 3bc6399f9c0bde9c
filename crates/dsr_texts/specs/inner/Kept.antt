-- The bytes of a text, wherever they are stored.
use Rattle.std.specs.Prelude.{ℕ, List}
use Rattle.std.specs.String.{string_bytes}
use Rattle.dsr_texts.specs.declared.text.Kept.{Kept}
use Rattle.dsr_texts.specs.declared.text.Kept.TheVariants.{Short, Long}

abbrev pub kept_bytes : Kept → List ℕ
kept_bytes (Short text) = text
kept_bytes (Long string) = string_bytes string.value
