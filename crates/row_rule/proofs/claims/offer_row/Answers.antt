use Rattle.std.proofs.Common.{◌≡◌, refl, arith}
use Rattle.row_rule.specs.Plays.{table, row_at}
use Rattle.row_rule.proofs.Claiming.{offers_at}
use Rattle.row_rule.proofs.claims.offer_row.Goals as goal

pub store-requires : goal.store-requires
store-requires g c = (
  c.requires.fits.0,
  omega (arith, c.row_word.ensures, c.requires.ready.words, c.requires.row, c.requires.fits),
  rw c.requires.ready.slots (offers_at (table c.args.words.now.key.buckets c.args.words.now.key.lines (g.R.Relate.about c.args.words.now.key.about) g.R.Relate.related)
      c.args.seat.now.id c.args.seat.now.me c.requires.ready.mine c.row_word.result 14 (omega (arith, c.row_word.ensures, c.requires.fits, c.requires.row)) (omega (arith, c.requires.row)) c.requires.claim refl refl c.requires.whole),
)

pub returns-clause-view : goal.returns-clause-view
returns-clause-view g c = let w : row_at c.args.seat.now.me.0 c.args.row 0 ≡ c.row_word.result = omega (arith, c.row_word.ensures, c.requires.fits, c.requires.ready.sizes) in
    rw w c.store.ensures.2
