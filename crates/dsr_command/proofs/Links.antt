-- Where the links of a name lead.
use Rattle.dsr_command.proofs.Common.{◌≡◌, ◌∙◌, ◌-◌, ◌<◌, ℕ, List, ap, arith}
use Rattle.std.proofs.Common.{suc}
use Rattle.dsr_command.specs.declared.link.Link.{Link}
use Rattle.dsr_command.specs.declared.link.Link.TheVariants.{To}
use Rattle.dsr_command.specs.World.{Disk, end_after, end_of_links, seen_from, stands_for}

-- one more name is looked at, which is this as a link
pub looked_at : (d : Disk) (left : ℕ) (place name : List ℕ) (link : Link) → 0 < left → end_of_links d.link left place ≡ stands_for d name
    → link ≡ d.link place → end_after (end_of_links d.link (left - 1)) place link ≡ stands_for d name
looked_at d left place name link lt leads is =
    let next : suc (left - 1) ≡ left = omega arith in
    ap (end_after (end_of_links d.link (left - 1)) place) is ∙ (ap (λ n. end_of_links d.link n place) next ∙ leads)

-- it is a link, and what it names is next
pub followed : (d : Disk) (left : ℕ) (place next name text : List ℕ) → 0 < left → end_of_links d.link left place ≡ stands_for d name
    → To text ≡ d.link place → next ≡ seen_from place text → end_of_links d.link (left - 1) next ≡ stands_for d name
followed d left place next name text lt leads is seen =
    ap (end_of_links d.link (left - 1)) seen ∙ looked_at d left place name (To text) lt leads is
