-- `spelling::clear_len` meets its contract. The invariant: what is left to look at starts at the offset reached, and up to there no byte is `stop`.
-- Assumes nothing.
use Rattle.std.proofs.Common.{◌≡◌, ◌+◌, ◌≤◌, length, drop}
use Rattle.spelling.specs.Bytes.{up_to}
use Rattle.spelling.proofs.clear_len.Given as goal

abbrev pub invariant-loop-eight : goal.invariant-loop-eight
invariant-loop-eight l = record {
  size : l.eight-iterator.size ≡ 8;
  within : l.n ≤ length l.s;
  left : drop l.n l.s ≡ l.eight-iterator.rest.now;
  clear : length (up_to l.stop l.s) ≡ l.n + length (up_to l.stop (drop l.n l.s));
}
