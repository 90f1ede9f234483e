-- What lists are proved with.
use Rattle.std.proofs.Common.{append_assoc, append-nil}
use Rattle.std.proofs.lemmas.Option.{slice_get_past}

pub ruleset list_rules = (append_assoc, append-nil)

pub ruleset pool_rules = (slice_get_past)
