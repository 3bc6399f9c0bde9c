-- The verdicts of a file's blocks, and what follows from them.
use Rattle.dsr_ledger.proofs.Common.{◌≡◌, ℕ, suc, ◌+◌, List, [], ◌∷◌, ◌++◌, append-nil, append_assoc, length, refl, sym, ◌∙◌, ap, arith, BlockParts, Summary, Standing, Verdict, Booked, Rejected, Filed, summaries_of, with_one, verdict, verdict_of, judged, judged_in, rejects_from, rejects_in}

judged-push : (s : Standing) (os : List Summary) (earlier bs : List BlockParts) (b : BlockParts)
    → judged s os earlier (bs ++ b ∷ []) ≡ judged s os earlier bs ++ (b, verdict s os (earlier ++ bs) b) ∷ []
judged-push s os earlier [] b = ap (λ e. (b, verdict s os e b) ∷ []) (sym (append-nil earlier))
judged-push s os earlier (x ∷ bs) b =
    ap (λ l. (x, verdict s os earlier x) ∷ l) (judged-push s os (earlier ++ x ∷ []) bs b
    ∙ ap (λ e. judged s os (earlier ++ x ∷ []) bs ++ (b, verdict s os e b) ∷ []) (append_assoc earlier (x ∷ []) bs))

-- the verdicts of a file with one more block
pub judged_more : (d : Filed) (b : BlockParts) → judged_in (with_one d b) ≡ judged_in d ++ (b, verdict_of d b) ∷ []
judged_more d b = judged-push d.standing (summaries_of d.file.opening) [] d.file.blocks b

length-judged : (s : Standing) (os : List Summary) (e bs : List BlockParts) → length (judged s os e bs) ≡ length bs
length-judged s os e [] = refl
length-judged s os e (b ∷ bs) = ap suc (length-judged s os (e ++ b ∷ []) bs)

rejects_from-push : (place n : ℕ) (js : List (BlockParts × Verdict)) (b : BlockParts) (v : Verdict)
    → rejects_from place n (js ++ (b, v) ∷ []) ≡ rejects_from place n js ++ rejects_from place (n + length js) ((b, v) ∷ [])
rejects_from-push place n [] b v = ap (λ k. rejects_from place k ((b, v) ∷ [])) (omega arith)
rejects_from-push place n ((c, Booked) ∷ js) b v =
    let e : (n + 1) + length js ≡ n + suc (length js) = omega arith in
    rejects_from-push place (n + 1) js b v ∙ ap (λ k. rejects_from place (n + 1) js ++ rejects_from place k ((b, v) ∷ [])) e
rejects_from-push place n ((c, Rejected r) ∷ js) b v =
    let e : (n + 1) + length js ≡ n + suc (length js) = omega arith in
    ap (λ l. record { file = place; position = n; block_id = c.id; reason = r } ∷ l)
    (rejects_from-push place (n + 1) js b v ∙ ap (λ k. rejects_from place (n + 1) js ++ rejects_from place k ((b, v) ∷ [])) e)

-- the rejects of a file with one more block
pub rejects_more : (d : Filed) (b : BlockParts) → rejects_in (with_one d b)
    ≡ rejects_in d ++ rejects_from d.place (1 + length d.file.blocks) ((b, verdict_of d b) ∷ [])
rejects_more d b =
    ap (rejects_from d.place 1) (judged_more d b)
    ∙ rejects_from-push d.place 1 (judged_in d) b (verdict_of d b)
    ∙ ap (λ n. rejects_in d ++ rejects_from d.place (1 + n) ((b, verdict_of d b) ∷ []))
    (length-judged d.standing (summaries_of d.file.opening) [] d.file.blocks)
