-- A turn plays one event, and the frames behind it together.
use Rattle.std.proofs.Common.{◌≡◌, length, sym, ap, ◌∙◌, refl, arith, rules, length-set}
use lib.ListN.{length-map}
use Rattle.faults.proofs.Lists.{mapped_length}
use Rattle.image.specs.Image.{saved_of}
use Rattle.bus.proofs.Frames.{glides_went}
use Rattle.bus.proofs.Gliding.{ran_glide}
use Rattle.bus.specs.Held.{number, others_after}
use Rattle.bus.proofs.Held.{saved_flat}
use Rattle.bus.proofs.Running.{at_most_one, ran_none, wired_long, turns_by, ran_whole, ran_room, ran_ahead, ran_turn, ran_last, ran_answers, ran_refused, span_most}
use Rattle.bus.proofs.Starting.{started}
use Rattle.bits.specs.Words.{pick}
use Rattle.bus.proofs.play.play.Goals as goal
use Rattle.bus.proofs.play.play.Goals.{then-not-barred, else-not-barred}

pub loop-progress-init : goal.loop-progress-init
loop-progress-init c =
    let a = c.args in
    let pre = c.requires in
    let long : length a.devices ≡ 8 = search (rules, mapped_length) in
    let heads = c.heads_of-heads.ensures in
    let w = started a.bus.now pre.0 a.count pre.4 a.devices long pre.1 c.places_of-who.result (rw heads at c.places_of-who.ensures) in
    record {
      inside = search rules;
      fewer = search rules;
      file = wired_long w;
      same_file = refl;
      room = refl;
      heads = rw heads (simp length-map long);
      ran = rw heads (ran_none _ a.bus.now a.tape.now _ a.answers.now _ _ w pre.2);
    }

-- whom an event concerns
pub hear-heard-requires : goal.hear-heard-requires
hear-heard-requires c =
    let m = span_most _ _ (turns_by _ _ _ _ _ _ _ _ c.barred-barred.ensures c.called.ensures.0 c.span_of-span.ensures) in
    (m.0, omega (arith, m.1), omega (arith, m.1, c.loop-progress.invariant.file))

pub bounds-answers-progress : goal.bounds-answers-progress
bounds-answers-progress c =
    let h = ran_room c.loop-progress.invariant.ran c.loop-progress-test.true in
    omega (arith, h, c.loop-progress.invariant.room, c.requires.3)

pub glide-progress-requires : goal.glide-progress-requires
glide-progress-requires c =
    let inv = c.loop-progress.invariant in (
      ran_ahead inv.ran c.loop-progress-test.true _ c.event_at-read.ensures _ (simp (length-set, inv.room) c.requires.3),
      c.requires.4,
      c.hear-heard.auto.bus ∙ inv.file,
    )

pub loop-progress-smaller : goal.loop-progress-smaller
loop-progress-smaller c =
    let w = ran_whole c.loop-progress.invariant.ran c.loop-progress-test.true _ c.event_at-read.ensures in
    let g = glides_went c.glide-progress.ensures.glides in
    omega (arith, w.0, w.1, g.place, g.inside w.1)

pub loop-progress-preserved : goal.loop-progress-preserved
loop-progress-preserved c =
    let l = c.loop-progress in
    let inv = l.invariant in
    let q = c.if-not-barred in
    let t = c.barred-barred.result in
    let kept : (q.talk.others ≡ pick t l.talk.others (others_after c.event_at-read.result.event l.talk.others))
    × (number q.talk.talker ≡ pick t (number l.talk.talker) (number c.hear-heard.result.talker)) × (q.any ≡ pick t l.any c.hear-heard.result.busy) =
    elim q.branch [ then-not-barred w ↦ (grind arith, grind arith, grind arith) | else-not-barred w ↦ (grind arith, grind arith, grind arith) ] in
    let turn = ran_turn inv.ran c.loop-progress-test.true c.requires.4 inv.heads _ c.event_at-read.ensures
    _ _ (turns_by _ _ _ _ _ _ _ _ c.barred-barred.ensures c.called.ensures.0 c.span_of-span.ensures) c.hear-heard.ensures
    _ kept.0 _ kept.1 _ kept.2 _ c.answer.ensures _ c.counted-refused.ensures in
    let w = ran_whole inv.ran c.loop-progress-test.true _ c.event_at-read.ensures in
    let g = glides_went c.glide-progress.ensures.glides in
    record {
      inside = g.inside w.1;
      room = g.long ∙ simp length-set inv.room;
      heads = search rules;
      fewer = omega (arith, inv.fewer, g.number, c.counted-refused.ensures, at_most_one t);
      file = c.hear-heard.auto.bus ∙ inv.file;
      same_file = c.hear-heard.auto.bus ∙ inv.same_file;
      ran = rw c.glide-progress.ensures.talker (ran_glide turn c.requires.4 (search rules) c.glide-progress.ensures.glides);
    }

pub returns : goal.returns
returns c =
    let r = c.loop-progress.invariant.ran in
    let e = c.loop-progress-test.false in
    record {
      value = ran_refused r e;
      bus_after = r.wired.held.bytes ∙ sym (saved_flat r.ds) ∙ ap saved_of (ran_last r e);
      answers_after = ran_answers r e;
    }
