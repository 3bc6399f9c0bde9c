-- What a source keeps of the bytes that it gave, over several reads.
use Rattle.dsr_file.proofs.Common.{◌≡◌, ℕ, sym, subst, List, [], ◌++◌, Option, Some, append_assoc, append-nil, Consumes, arith}
use Rattle.std.proofs.lemmas.List.{append_cancel_right}
use Rattle.std.specs.Io.KnownBytes.{Keeps}
use Rattle.dsr_io.specs.meaning.Told.{Told, HoldsGiven}
use Rattle.dsr_file.proofs.ReadLemmas.{consumes_more, consumes_kept, consumes_self}

-- the bytes given are those that are left no more
given_is : (old new : Option (List ℕ)) (x given rest : List ℕ) → Consumes old new x → old ≡ Some (given ++ rest) → new ≡ Some rest → x ≡ given
given_is old new x given rest c before after = let all : x ++ rest ≡ given ++ rest = grind arith in append_cancel_right x given rest all

module _ {S : Type 0} (told : S → Told) (holds : S → List ℕ → Type 0) (before : S) where
  -- some bytes were given, and what was kept of those before them is kept of these too
  pub record Holding (after : S) : Type 0 where
    pub given : List ℕ
    pub consumed : Consumes (told before).remaining (told after).remaining given
    pub kept : (held : List ℕ) → holds before held → holds after (held ++ given)

  pub holding_none : Holding before
  holding_none = record {
    given = [];
    consumed = consumes_self (told before).remaining;
    kept = λ held h. subst (holds before) (sym (append-nil held)) h;
  }

  -- a read gave this piece
  pub holding_more : (mid after : S) (piece : List ℕ) → Holding mid → Consumes (told mid).remaining (told after).remaining piece
      → ((held : List ℕ) → holds mid held → holds after (held ++ piece)) → Holding after
  holding_more mid after piece h c step = record {
    given = h.given ++ piece;
    consumed = consumes_more (told before).remaining (told mid).remaining (told after).remaining h.given piece h.consumed c;
    kept = λ held k. subst (holds after) (append_assoc held h.given piece) (step (held ++ h.given) (h.kept held k));
  }

  -- a read failed
  pub holding_kept : (mid after : S) → Holding mid → Keeps (told mid).remaining (told after).remaining
      → ((held : List ℕ) → holds mid held → holds after held) → Holding after
  holding_kept mid after h c step = record {
    given = h.given;
    consumed = consumes_kept (told before).remaining (told mid).remaining (told after).remaining h.given h.consumed c;
    kept = λ held k. step (held ++ h.given) (h.kept held k);
  }

  pub holding_given : (after : S) → Holding after → HoldsGiven told holds before after
  holding_given after h = λ held given rest left gone k.
      let same = given_is (told before).remaining (told after).remaining h.given given rest h.consumed left gone in
      subst (λ x. holds after (held ++ x)) same (h.kept held k)

  pub holds_self : HoldsGiven told holds before before
  holds_self = holding_given before holding_none
