use Rattle.std.proofs.Common.{◌≡◌, arith}
use Rattle.row_rule.specs.Plays.{table, row_at}
use Rattle.row_rule.specs.Changes.{top_of, later_rows}
use Rattle.row_rule.proofs.Claiming.{drops_at}
use Rattle.row_rule.proofs.scans.drop_child.Goals as goal

pub fetch_sub-requires : goal.fetch_sub-requires
fetch_sub-requires g c = (
  c.requires.fits.0,
  omega (arith, c.row_word.ensures, c.requires.ready.words, c.requires.fits, c.requires.row),
  rw c.requires.ready.slots (drops_at (table c.args.words.now.key.buckets c.args.words.now.key.lines (g.R.Relate.about c.args.words.now.key.about) g.R.Relate.related)
      c.args.seat.now.id c.args.seat.now.me c.requires.ready.mine c.args.row (later_rows (top_of c.args.seat.now.me.0).kids) c.row_word.result (omega (arith, c.row_word.ensures, c.requires.fits)) c.requires.claim),
)

pub returns-clause-view : goal.returns-clause-view
returns-clause-view g c = let w : row_at c.args.seat.now.me.0 c.args.row 0 ≡ c.row_word.result = omega (arith, c.row_word.ensures, c.requires.fits, c.requires.ready.sizes) in
    λ m e. rw w (c.fetch_sub.ensures.2.1 m e)
