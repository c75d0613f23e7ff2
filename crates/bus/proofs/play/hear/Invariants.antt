-- The devices from the first of the span on have had the event.
use Rattle.std.proofs.Common.{◌≡◌, length}
use Rattle.bus.specs.Held.{number, Played}
use Rattle.bus.proofs.play.hear.Given as goal

abbrev pub invariant-loop-j : goal.invariant-loop-j
invariant-loop-j l = record {
  file : length l.bus ≡ length l.initial.bus;
  played : Played l.ev (number l.talk.talker) l.talk.others l.initial.j l.initial.heads l.initial.pages l.initial.bus l.j l.heads l.pages l.bus l.level (number l.talker) l.busy;
}
