use Rattle.std.proofs.Common.{refl, sym, ap, rules, ◌∙◌, ◌≡◌, ◌∷◌, [], ◌++◌}
use Rattle.bitio.specs.Refusal.{says}
use Rattle.obu.specs.Unit.{is_type}
use Rattle.obu.specs.declared.unit.Kind.TheVariants.{SequenceHeader}
use Rattle.bitio.specs.Parse.{and_next}
use Rattle.player.specs.Player.{keep_as}
use Rattle.player.specs.Values.{kept_of, header_kept, kept_behind}
use Rattle.obu.specs.Place.{part}
use Rattle.obu.proofs.PlaceLaws.{part_placed}
use Rattle.obu.proofs.WalkLaws.{passed_none, passed_one, passed_all, passed_stop}
use Rattle.player.proofs.KeepLaws.{read-more, turn-header, turn-other}
use Rattle.std.specs.Prelude.{MatchResult, Result, Ok, Err}
use Rattle.player.proofs.keep.keep_headers.Goals as goal

match_both : {A E : Type 0} {P Q : A → Type 0} {R S : E → Type 0} (r : Result A E) → ((a : A) → P a → Q a) → ((e : E) → R e → S e) → MatchResult r P R → MatchResult r Q S
match_both (Ok a) f g h = f a h
match_both (Err e) f g h = g e h

pub loop-found-init : goal.loop-found-init
unfolding keep_as
loop-found-init c = ([], passed_none (rw c.into_iter-found-iterator.ensures.into_iter_gives c.new-found-items.ensures), refl)

pub returns-in_err-o : goal.returns-in_err-o
unfolding kept_behind and_next
returns-in_err-o c =
    let e = ap (λ x. and_next x (keep_as kept_of c.args.kept)) (passed_stop c.loop-found.invariant.1 _ c.next.new.self (rw c.in_err-o.was at c.in-Some.ensures.steps)) in
    search (rules, e)

pub loop-found-preserved-then-is_type : goal.loop-found-preserved-then-is_type
loop-found-preserved-then-is_type c =
    let (front, p, k) = c.loop-found.invariant in
    let (g, b, q) = passed_one p _ c.next.new.self (rw c.in_ok-o.was at c.in-Some.ensures.steps) in
    let t = ap (is_type SequenceHeader) g.type ∙ sym c.if-is_type.ensures in
    let x = c.and_then-last.result in
    let s = part c.args.unit.now c.in_ok-o.o.start c.in_ok-o.o.end in
    let m : MatchResult c.loop-found.last (λ _. says x ≡ header_kept s) (λ e. x ≡ Err e) =
    match_both c.loop-found.last (λ k h. search (rules, h)) (λ e h. h) c.and_then-last.ensures in
    let h = rw (part_placed g.placed) at (read-more c.loop-found.last x s m) in
    (front ++ (g.obu ∷ []), q, h ∙ ap (λ x. and_next x (λ _. header_kept g.obu.payload)) k ∙ turn-header c.args.kept front g.obu t)

pub loop-found-preserved : goal.loop-found-preserved
loop-found-preserved c =
    let (front, p, k) = c.loop-found.invariant in
    let (g, b, q) = passed_one p _ c.next.new.self (rw c.in_ok-o.was at c.in-Some.ensures.steps) in
    let t = ap (is_type SequenceHeader) g.type ∙ sym c.if-is_type.ensures in
    (front ++ (g.obu ∷ []), q, k ∙ turn-other c.args.kept front g.obu t)

pub returns : goal.returns
unfolding kept_behind and_next
returns c =
    let i = c.loop-found.invariant in
    rw (passed_all i.1 c.next.new.self c.in-None.ensures.steps) i.2
