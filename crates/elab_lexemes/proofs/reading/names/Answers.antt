use Rattle.elab_lexemes.proofs.Names.{names_are}
use Rattle.elab_lexemes.proofs.reading.names.Goals as goal

pub returns : goal.returns
returns c = rw (c.in_ok-places.ensures, c.as_slice.ensures.value, c.in_ok-words.ensures) (names_are c.args.file.now c.args.tokens.now c.args.tokens.now)
