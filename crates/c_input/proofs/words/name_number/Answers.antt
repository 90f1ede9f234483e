use Rattle.std.proofs.lemmas.Map.Text.{btree_map_updates_str}
use Rattle.c_input.proofs.words.name_number.Goals as goal

pub returns-in_ok-insert-in-None-clause-others : goal.returns-in_ok-insert-in-None-clause-others
returns-in_ok-insert-in-None-clause-others c = btree_map_updates_str c.args.text.now c.args.numbers.now c.insert.new.self _ c.in_ok-insert-in-None.ensures.updates
