use Rattle.std.proofs.Common.{◌+◌, ◌/◌, arith}
use Rattle.row_rule.specs.Plays.{table}
use Rattle.row_rule.proofs.Claiming.{sees_bit_at}
use Rattle.row_rule.proofs.scans.see_bit.Goals as goal

pub load-requires : goal.load-requires
load-requires g c = (
  c.requires.fits,
  omega (arith, c.requires.ready.words, c.requires.fits, c.requires.row),
  rw c.requires.ready.slots (sees_bit_at (table c.args.words.now.key.buckets c.args.words.now.key.lines (g.R.Relate.about c.args.words.now.key.about) g.R.Relate.related)
      c.args.seat.now.id c.args.seat.now.me c.requires.ready.mine (1 + c.args.row / 32) (omega (arith, c.requires.row)) (omega (arith, c.requires.row)) c.requires.claim),
)
