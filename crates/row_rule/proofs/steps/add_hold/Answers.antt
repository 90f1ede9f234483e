use Rattle.std.proofs.Common.{arith}
use Rattle.row_rule.specs.Plays.{table}
use Rattle.row_rule.proofs.Allowed.{gains_at}
use Rattle.row_rule.proofs.steps.add_hold.Goals as goal

pub fetch_add-requires : goal.fetch_add-requires
fetch_add-requires g c = (
  c.requires.fits.0,
  omega (arith, c.row_word.ensures, c.requires.ready.words, c.requires.row, c.requires.fits),
  rw c.requires.ready.slots (gains_at (table c.args.words.now.key.buckets c.args.words.now.key.lines (g.R.Relate.about c.args.words.now.key.about) g.R.Relate.related)
      c.args.seat.now.id c.args.seat.now.me c.requires.ready.mine c.args.row c.row_word.result (omega (arith, c.row_word.ensures, c.requires.fits)) c.requires.held c.requires.room),
)
