-- The state of a file represents it after a block too.
use Rattle.dsr_ledger.proofs.Common.{◌≡◌, ℕ, List, [], ◌∷◌, ◌++◌, length, true, sym, ◌∙◌, ap, arith, Bool, cond, ◌+◌, length-append, option_map, find, is_some, bytes_eq, flat_map_more, list_any-append, Summary, summaries_of, Filed, found_in, no_sums, state_at, sums_with, is_known, FileBooks, Ids, BlockParts, Ledger, Verdict, verdict_bookings, IsSameFile, TakesBlock, tally_at, FileStands, Took, Usage, has_id, is_summary, verdict_of, verdict_by, usages_in, rejects_from, is_in, tally_plus, key_tally}
use Rattle.dsr_ledger.proofs.StateLemmas.{sums_with-append, sums_after, is_some_state, is_some-map}
use Rattle.dsr_ledger.proofs.JudgedLemmas.{rejects_more}

-- the summaries of the state are those of the file
known_is : (f : FileBooks) (d : Filed) → FileStands f d → (id : List ℕ) → is_known f.summaries id ≡ is_summary (summaries_of d.file.opening) id
known_is f d h id =
    sym (is_some_state f.summaries id) ∙ sym (is_some-map (λ s. s.sums) (state_at f.summaries id)) ∙ ap is_some (h.summaries id)
    ∙ is_some-map _ (find (λ s. bytes_eq id s.id) (summaries_of d.file.opening))

-- so the verdict is that of the file
verdict_is : (f : FileBooks) (d : Filed) (b : BlockParts) → FileStands f d → verdict_by f.standing (is_in f.ids b.id) (is_known f.summaries) b ≡ verdict_of d b
verdict_is f d b h = λ i. verdict_by (h.standing i) (h.ids b.id i) (λ id. known_is f d h id i) b

-- one more usage is counted
found_more : (os : List Summary) (us vs : List Usage) (id : List ℕ) → option_map (sums_with id vs) (found_in os us id) ≡ found_in os (us ++ vs) id
found_more os us vs id = grind (arith, sums_with-append id us vs no_sums)

-- a block was taken, and its identifier noted
pub took : (d : Filed) (f g : FileBooks) (was is : Ids) (b : BlockParts) (v : Verdict) (seen : Bool) (old new : Ledger) → FileStands f d
    → verdict_by f.standing seen (is_known f.summaries) b ≡ v → seen ≡ is_in f.ids b.id
    → TakesBlock (record f { ids = was }) (record g { ids = is }) old new b v
    → ((id : List ℕ) → is_in g.ids id ≡ cond (bytes_eq b.id id) true (is_in f.ids id)) → Took d b v g old new
took d f g was is b v seen old new h judged_so same t ids =
    let judgment = sym judged_so ∙ ap (λ s. verdict_by f.standing s (is_known f.summaries) b) same ∙ verdict_is f d b h in let os = summaries_of d.file.opening in
    let position : f.blocks + 1 ≡ 1 + length d.file.blocks = let e = h.blocks in omega arith in
    record {
      is_verdict = judgment;
      stands = record {
        place = t.place ∙ h.place;
        opening = t.opening ∙ h.opening;
        standing = t.standing ∙ h.standing;
        blocks = t.blocks ∙ ap (λ n. n + 1) h.blocks ∙ sym (length-append d.file.blocks (b ∷ []));
        ids = λ id. grind (arith, ids id, h.ids id, list_any-append (has_id id) d.file.blocks (b ∷ []));
        summaries = λ id.
            ap (option_map (λ s. s.sums)) (t.summaries id) ∙ sums_after id b.usages (state_at f.summaries id)
            ∙ ap (option_map (sums_with id b.usages)) (h.summaries id) ∙ found_more os (usages_in d.file.blocks) b.usages id
            ∙ ap (λ us. found_in os us id) (flat_map_more (λ x. x.usages) [] d.file.blocks b);
        rejects = t.rejects ∙ (λ i. h.rejects i ++ rejects_from (h.place i) (position i) ((b, judgment i) ∷ [])) ∙ sym (rejects_more d b);
        outcome = t.outcome ∙ h.outcome;
      };
      tallies = λ q. t.tallies q ∙ (λ i. tally_plus (tally_at old q) (key_tally (verdict_bookings (summaries_of (h.opening i)) (b, v)) q));
      range = t.range;
    }

-- if the state still represents the same file
pub stands_same : (f g : FileBooks) (d : Filed) → FileStands f d → IsSameFile f g → FileStands g d
stands_same f g d h t = record {
  place = t.place ∙ h.place;
  opening = t.opening ∙ h.opening;
  standing = t.standing ∙ h.standing;
  blocks = t.blocks ∙ h.blocks;
  ids = λ id. t.ids id ∙ h.ids id;
  summaries = λ id. ap (option_map (λ s. s.sums)) (t.summaries id) ∙ h.summaries id;
  rejects = t.rejects ∙ h.rejects;
  outcome = t.outcome ∙ h.outcome;
}
