use Rattle.std.proofs.Common.{◌≡◌, ℕ, suc, sym, ◌∙◌, arith, ◌+◌}
use Rattle.row_rule.specs.Plays.{table, row_at}
use Rattle.row_rule.specs.declared.view.View.{View}
use Rattle.row_rule.proofs.Allowed.{sees_at}
use Rattle.row_rule.proofs.steps.see_part.Goals as goal

pub load-requires : goal.load-requires
load-requires g c = (
  c.requires.fits.0,
  omega (arith, c.row_word.ensures, c.requires.ready.words, c.requires.row, c.requires.fits),
  rw c.requires.ready.slots (sees_at (table c.args.words.now.key.buckets c.args.words.now.key.lines (g.R.Relate.about c.args.words.now.key.about) g.R.Relate.related)
      c.args.seat.now.id c.args.seat.now.me c.requires.ready.mine c.args.row c.args.part c.row_word.result (omega (arith, c.row_word.ensures, c.requires.fits)) c.requires.held c.requires.row.1),
)

pub returns-clause-view : goal.returns-clause-view
returns-clause-view g c = let w : row_at c.args.seat.now.me.0 c.args.row (1 + c.args.part) ≡ c.row_word.result = omega (arith, c.row_word.ensures, c.requires.fits, c.requires.ready.sizes) in
    rw w (c.load.ensures.2 c.args.row c.args.part c.requires.row.1 (sym w ∙ suc_part c.args.seat.now.me.0 c.args.row c.args.part)).0
  where
    suc_part : (v : View) (r p : ℕ) → row_at v r (1 + p) ≡ row_at v r (suc p)
    suc_part v r p = omega arith

pub returns-clause-part : goal.returns-clause-part
returns-clause-part g c = (c.load.ensures.2 c.args.row c.args.part c.requires.row.1 (omega (arith, c.row_word.ensures, c.requires.fits, c.requires.ready.sizes))).1

pub returns-clause-rows : goal.returns-clause-rows
returns-clause-rows g c = (c.load.ensures.2 c.args.row c.args.part c.requires.row.1 (omega (arith, c.row_word.ensures, c.requires.fits, c.requires.ready.sizes))).2
