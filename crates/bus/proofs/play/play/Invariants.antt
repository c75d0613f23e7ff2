-- What is left ends as the whole does.
use Rattle.std.proofs.Common.{◌≡◌, ◌-◌, ◌*◌, ◌≤◌, length}
use Rattle.image.specs.Layout.{record_size}
use Rattle.bus.specs.Held.{number}
use Rattle.bus.proofs.Running.{Ran}
use Rattle.bus.proofs.play.play.Given as goal

abbrev pub invariant-loop-progress : goal.invariant-loop-progress
invariant-loop-progress l = record {
  inside : l.progress.at ≤ length l.tape;
  room : length l.answers ≡ length l.initial.answers;
  heads : length l.heads ≡ 8;
  fewer : l.refused ≤ l.progress.answered;
  file : length l.bus ≡ record_size * l.count;
  same_file : length l.bus ≡ length l.initial.bus;
  ran : Ran l.count l.initial.bus l.tape l.who l.initial.answers l.answers l.heads l.pages l.bus l.talk.others (number l.talk.talker) l.any l.refused l.progress.at l.progress.answered;
}

abbrev pub decreases-loop-progress : goal.decreases-loop-progress
decreases-loop-progress l = length l.tape - l.progress.at
