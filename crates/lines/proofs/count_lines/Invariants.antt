-- So many lines were read on from the start, and the reader is past what was found last. What is left to read falls with each line.
use Rattle.lines.proofs.Walking.{Counted, left}
use Rattle.lines.proofs.count_lines.Given as goal

abbrev pub invariant-loop-lines : goal.invariant-loop-lines
invariant-loop-lines l = Counted l.journal l.lines l.s

abbrev pub decreases-loop-lines : goal.decreases-loop-lines
decreases-loop-lines l = left l.journal l.s.reader.at l.s.next
