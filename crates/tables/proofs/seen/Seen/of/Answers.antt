-- The line that is named, the core, what its copies give, the line: each by the one before.
use mathlib.Core.Path.{◌≡◌}
use Rattle.protocol.specs.{Limits.most_lines, Machine.{core_at, copy_at, line_at, pieces, the_line}}
use Rattle.tables.specs.{Found.found_at, Look.look_to, Seen.{named_seen, core_seen, copies_seen, line_seen, pieces_seen}}
use Rattle.tables.proofs.seen.Seen.of.Goals as goal

pub returns : goal.returns
unfolding named_seen core_seen copies_seen line_seen pieces_seen
returns c =
    let s = c.args.state.now in
    let call = c.args.call in
    let a = c.about-about.ensures in
    let k = c.core_of-core.result in
    let look = c.look_over-look.result in
    let l = c.line_of-line.result in
    let named : c.named_line-named.result ≡ named_seen call s = rw a at c.named_line-named.ensures.is in
    let core : k ≡ core_seen call s = rw (a, named) at c.core_of-core.ensures.is in
    let over : look ≡ look_to (copy_at s k) c.looked_over.result = c.look_over-look.ensures in
    let found : look ≡ copies_seen call s = rw (c.looked_over.ensures.is, a, core) at over in
    let at : l ≡ found_at (the_line c.about-about.result.line (core_at s k).slot look.line) s.opening.lines most_lines = c.line_of-line.ensures.is in
    let line : l ≡ line_seen call s = rw (a, core, found) at at in
    let there : pieces l (core_at s k) (copy_at s k l) (line_at s l) look.copies ≡ pieces_seen call s = rw (line, core, found) in
    record { core = core; pieces = there }
