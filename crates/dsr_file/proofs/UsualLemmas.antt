-- What a reader represents after a line of the usual form.
use Rattle.dsr_file.proofs.Common.{◌≡◌, ℕ, ◌+◌, ◌-◌, ◌<◌, ◌∙◌, sym, ap, refl, subst, Bool, true, false, List, [], ◌∷◌, ◌++◌, length, Option, length-append, length-take, take, get_or, arith, eqb, suc, Ok, list_any, is_utf8, ne_eqb, lt-ltb, false≢true, get_or-take, is_utf8-from_IsUtf8, is_line_feed, without_return, Record, is_left_out, LayoutTable, record_of, EventPart, Placed, Step, FileReader, Reading, Holds, reading, of_utf8, CutsTo, IsBetweenLines, Keeps, LineSteps, Stands, StandsAt, AtLine}
use Rattle.std.proofs.lemmas.List.Elements.{All-get_or}
use Rattle.std.proofs.lemmas.List.Sums.{AllPass-from_list_all}
use Rattle.dsr_records.specs.inner.Usual.{BeginsWithLine, is_plain}
use Rattle.dsr_file.specs.declared.phase.Phase.TheVariants as phases
use Rattle.dsr_file.proofs.CutLemmas.{fed_line}
use Rattle.dsr_file.proofs.StandLemmas.{line_read}
use Rattle.dsr_file.proofs.TestLemmas.{of_utf8_record, reading_text}

plain_inside : (b n : ℕ) → is_plain b ≡ true → is_plain n ≡ false → eqb b n ≡ false
plain_inside b n yes_ no_ = ne_eqb b n (λ same. absurd (false≢true (sym no_ ∙ ap is_plain (sym same) ∙ yes_)))

module _ (page : List ℕ) (size : ℕ) (line : BeginsWithLine page size) where
  abbrev text : List ℕ
  text = take size page

  text_length : length text ≡ size
  text_length = length-take size page ∙ omega (arith, line.within)

  plain_at : (i : ℕ) → i < size → is_plain (get_or text i 0) ≡ true
  plain_at i inside = All-get_or (λ b. is_plain b ≡ true) text i 0 (omega (arith, text_length, inside)) (AllPass-from_list_all is_plain text line.plain)

  -- no byte of it is a line feed, and no carriage return ends it
  none : list_any is_line_feed text ≡ false
  none = list_any-none is_line_feed text (λ i inside. plain_inside _ 10 (plain_at i (omega (arith, inside, text_length))) refl)
    where
      list_any-none : (p : ℕ → Bool) (xs : List ℕ) → ((i : ℕ) → i < length xs → p (get_or xs i 0) ≡ false) → list_any p xs ≡ false
      list_any-none p [] fails = refl
      list_any-none p (x ∷ xs) fails = rw (fails 0 (omega arith), list_any-none p xs (λ i inside. fails (suc i) (omega (arith, inside)))) refl

  no_return : without_return text ≡ text
  no_return =
      let last : eqb (get_or text (length text - 1) 0) 13 ≡ false =
      plain_inside _ 13 (plain_at (length text - 1) (omega (arith, text_length, line.some))) refl in
      rw (last, lt-ltb 0 (length text) (omega (arith, text_length, line.some))) refl

  not_skipped : is_left_out text ≡ false
  not_skipped =
      let some : eqb (length text) 0 ≡ false = ne_eqb (length text) 0 (λ e. omega (arith, e, text_length, line.some)) in
      let begins : eqb (get_or text 0 0) 35 ≡ false = ne_eqb (get_or text 0 0) 35 (λ e. line.begins (sym (get_or-take size page 0 0 line.some) ∙ e)) in
      rw (some, begins) refl

  pub reading_usual : (layout : LayoutTable) (item : Record) → record_of layout text ≡ Ok item → reading layout text ≡ Holds item
  reading_usual layout item is =
      let utf8 : is_utf8 (without_return text) ≡ true = ap is_utf8 no_return ∙ is_utf8-from_IsUtf8 text line.utf8 in
      reading_text layout text (omega (arith, text_length, line.few)) utf8
      ∙ ap (of_utf8 layout) no_return ∙ of_utf8_record layout text (Ok item) not_skipped (sym is)

  -- the line, after the grammar has taken it
  pub usual_taken : (layout : LayoutTable) (old new : FileReader) (b : List ℕ) (es : List Placed) (item : Record) (step : Step) (closed : Option EventPart)
      → Stands layout old b es → old.phase ≡ phases.Reading → IsBetweenLines old.cutter → record_of old.layout text ≡ Ok item
      → ((ls : List Reading) → Keeps old.grammar ls → LineSteps ls (Holds item) step closed new.grammar) → IsBetweenLines new.cutter
      → new.layout ≡ old.layout → new.given ≡ old.given + (size + 1) → new.place ≡ old.place → new.ending ≡ old.ending
      → AtLine layout new (old.grammar.lines + 1) step closed (b ++ take (size + 1) page) es
  usual_taken layout old new b es item step closed s r between is steps after la g p n =
      let at : StandsAt layout phases.Reading old b es = subst (λ x. StandsAt layout x old b es) r s.phase_is in
      let cuts : CutsTo [] false b at.0 = subst (λ x. CutsTo [] x b at.0) between.1 (subst (λ x. CutsTo x old.cutter.fresh b at.0) between.0 at.1) in
      let used : length (take (size + 1) page) ≡ size + 1 = length-take (size + 1) page ∙ omega (arith, line.within) in
      line_read layout old new at.0 text b (b ++ take (size + 1) page) es step closed (fed_line [] b page at.0 size cuts none line.within line.ends) at.2
      (λ ls k. subst (λ x. LineSteps ls x step closed new.grammar) (sym (reading_usual old.layout item is)) (steps ls k)) after
      (la ∙ s.at.0, g ∙ omega (arith, s.at.1, used, length-append b (take (size + 1) page)), p ∙ s.at.2) (n ∙ at.2.2)
