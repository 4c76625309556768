use Rattle.std.proofs.Common.{arith, ap, sym, cond, Bool, take, drop, length-take, length-drop, length-set, ◌∙◌, ◌+◌, ◌*◌, ◌-◌, ◌≡◌, ◌∷◌, [], ℕ, replicate, length, set}
use Rattle.std.proofs.lemmas.List.{length-replicate}
use Rattle.bitio.specs.Lent.{pasted}
use Rattle.bitio.proofs.LentLaws.{pasted-one}
use Rattle.obu.proofs.WriteLaws.{copied-there}
use Rattle.blocks.specs.Blocks.{Key, Show, code}
use Rattle.blocks.proofs.LayLaws.{block_one, block_more, two-and-more}
use Rattle.blocks.proofs.blocks.put_block.Goals as goal
use Rattle.blocks.proofs.blocks.put_block.Goals.{then-b, else-b}

pub returns-then-b-lt2 : goal.returns-then-b-lt2
returns-then-b-lt2 c =
    let a = c.args in
    let one = block_one a.segment a.b.size a.b.key c.requires.units c.if-b-lt2.true in
    pasted-one a.list.now a.at _ (omega arith) ∙ ap (pasted a.list.now a.at)
    (elim c.if-b.branch [
      | then-b w ↦ rw w.kind-is (ap (λ (b : Bool). (a.segment * 4 + code (cond b Key Show)) ∷ []) (sym w.if-b.true) ∙ one)
      | else-b w ↦ rw w.kind-is (ap (λ (b : Bool). (a.segment * 4 + code (cond b Key Show)) ∷ []) (sym w.if-b.false) ∙ one)
    ])

pub returns : goal.returns
returns c =
    let a = c.args in
    let m = a.segment * 4 in
    let zs = replicate (a.b.size - 2) (m + 2) in
    let d = set (set a.list.now a.at (m + 0)) (a.at + 1) (m + 1) in
    let k : a.b.size - 2 ≡ length (take (a.at + a.b.size - (a.at + 2)) (drop (a.at + 2) d)) = simp (length-take, length-drop, length-set) (omega arith) in
    let e : c.fill.new.self ≡ zs = rw (← k) at (c.fill.ensures.after (λ y h. h)) in
    let j : a.at + a.b.size - (a.at + 2) ≡ a.at + 2 + length zs - (a.at + 2) = simp length-replicate (omega arith) in
    rw j (copied-there d zs (a.at + 2) e)
    ∙ two-and-more a.list.now a.at (m + 0) (m + 1) zs (simp length-replicate (omega arith))
    ∙ ap (λ (x : ℕ). pasted a.list.now a.at (x ∷ (m + 1) ∷ zs)) (omega arith)
    ∙ ap (pasted a.list.now a.at) (block_more a.segment a.b.size a.b.key c.if-b-lt2.false)
