-- What is known where a file begins.
use Rattle.std.specs.Prelude.{ℕ, List, [], None}
use Rattle.elab_findings.specs.Findings.{nothing_found}
use Rattle.elab_environment.specs.declared.lexeme.Lexeme.{Lexeme}
use Rattle.elab_environment.specs.declared.state.Environment.{Environment}

-- nothing is declared, in the outermost block
abbrev pub beginning : List Lexeme → List ℕ → Environment
beginning lexemes strings = record {
  lexemes = lexemes;
  strings = strings;
  findings = nothing_found;
  declaration = 0;
  block = record { names = 0; tags = 0 };
  names = [];
  linked = [];
  named = [];
  tag_names = [];
  tags = [];
  structs = [];
  layout = record { structs = [] };
  objects = [];
  object_declarations = [];
  functions = [];
  calls = [];
  named_functions = [];
  body_of = None;
  not_inline = [];
  unevaluated = 0;
}
