-- A file has one list of definitions or is refused, and an entry of one number and one definition or none.
use Rattle.std.proofs.Common.{◌≡◌, ℕ, List, Option, Some, None, Result, Ok, Err, ap, ◌∙◌, sym, subst, arith}
use Rattle.std.specs.Prelude.{slice_get, All}
use Rattle.std.proofs.lemmas.Option.{get_or_from_slice_get, slice_get_within}
use Rattle.c_lex.specs.Reading.{Lexed, start}
use Rattle.c_lex.specs.Reading.{Refused as LexRefused}
use Rattle.c_lex.specs.declared.error.LexStop.{LexStop}
use Rattle.c_lex.specs.declared.error.LexStop.TheVariants as lex
use Rattle.c_lex.specs.declared.token.Token.{Token}
use Rattle.c_lex.proofs.Unique.{one_list, never_both}
use Rattle.c_input.specs.declared.error.SyntaxStop.{SyntaxStop}
use Rattle.c_input.specs.declared.error.SyntaxStop.TheVariants as syntax
use Rattle.c_tree.specs.declared.tree.Unit.{Unit as Tree}
use Rattle.c_syntax.specs.FileScope as grammar
use Rattle.c_input.specs.Parser.{Outcome}
use Rattle.normal_form.specs.ConstantForm.{definitions}
use Rattle.normal_form.specs.declared.constant.Returning.{Returning}
use Rattle.eva_front.specs.declared.refusals.Refusal.{Refusal}
use Rattle.eva_front.specs.Answer.{HasEntry, HasNoEntry}
use Rattle.eva_front.specs.FrontEnd.{Defines, HasNoTree, HasTree, IsRefused, no_tokens, no_tree, not_of_form, parsed, syntax_refusal, too_long, without_tree}
use Rattle.eva_front.specs.Refusals.{lex_refusal}
use Rattle.eva_front.proofs.Definitions.{one_number}

-- ---- a file has one tree, or is refused
never_lexed : (file : List ℕ) (ts : List Token) (e : LexStop) (r : Refusal) → Lexed file ts → LexRefused file e → lex_refusal e ≡ Some r → ⊥
never_lexed file ts (lex.BadByte at p) r l s h = never_both start file ts (lex.BadByte at p) l s
never_lexed file ts (lex.BadToken at p) r l s h = never_both start file ts (lex.BadToken at p) l s
never_lexed file ts (lex.LiteralTooWide at p) r l s h = never_both start file ts (lex.LiteralTooWide at p) l s
never_lexed file ts lex.Memory r l s h = cc

ok_or_err : {X E : Type 0} (o : Result X E) (x : X) (e : E) → o ≡ Ok x → o ≡ Err e → ⊥
ok_or_err o x e p q = cc

never_parsed : (o : Outcome Tree) (ts : List Token) (t : Tree) (e : SyntaxStop) (r : Refusal) → grammar.Answers o (Ok t) → grammar.Answers o (Err e) →
    syntax_refusal ts e ≡ Some r → ⊥
never_parsed o ts t (syntax.Syntax at) r a s h = ok_or_err o _ _ a.1 s
never_parsed o ts t (syntax.TooDeep at) r a s h = ok_or_err o _ _ a.1 s
never_parsed o ts t (syntax.OutOfProfile at) r a s h = ok_or_err o _ _ a.1 s
never_parsed o ts t syntax.Memory r a s h = cc

never_treeless : (file : List ℕ) (ts : List Token) (t : Tree) (r : Refusal) → HasTree file ts t → HasNoTree file r → ⊥
never_treeless file ts t r has (too_long h e) = let s = has.short in absurd (omega arith)
never_treeless file ts t r has (no_tokens e short s h) = never_lexed file ts e r has.lexed s h
never_treeless file ts t r has (no_tree us e short lexed s h) =
    let same : us ≡ ts = one_list start file us ts lexed has.lexed in
    let stops : grammar.Answers (parsed file ts) (Err e) = subst (λ (x : List Token). grammar.Answers (parsed file x) (Err e)) same s in
    never_parsed (parsed file ts) us t e r has.accepted stops h

ok_one : {S E : Type 0} (o : Result (Tree × S) E) (t u : Tree) (a b : S) → o ≡ Ok (t, a) → o ≡ Ok (u, b) → t ≡ u
ok_one {S} {E} o t u a b p q =
    let f : (t, a) ≡ (u, b) = cc in
    ap (λ (x : Tree × S). x.0) f

one_tree : (file : List ℕ) (ts us : List Token) (t u : Tree) → HasTree file ts t → HasTree file us u → (ts ≡ us) × (t ≡ u)
one_tree file ts us t u p q =
    let same : ts ≡ us = one_list start file ts us p.lexed q.lexed in
    let a : grammar.Answers (parsed file us) (Ok t) = subst (λ (x : List Token). grammar.Answers (parsed file x) (Ok t)) same p.accepted in
    (same, ok_one (parsed file us) t u a.0 q.accepted.0 a.1 q.accepted.1)

pub some_one : {X : Type 0} (o : Option X) (a b : X) → o ≡ Some a → o ≡ Some b → a ≡ b
some_one o a b p q = cc

pub none_some : {X : Type 0} (o : Option X) (a : X) → o ≡ None → o ≡ Some a → ⊥
none_some o a p q = cc

-- ---- it has one list of definitions
definitions_here : (file : List ℕ) (ts us : List Token) (t u : Tree) (o : Option (List Returning)) → HasTree file ts t → HasTree file us u →
    definitions file ts t ≡ o → definitions file us u ≡ o
definitions_here file ts us t u o p q h =
    let e = one_tree file ts us t u p q in
    subst (λ (x : Tree). definitions file us x ≡ o) e.1 (subst (λ (x : List Token). definitions file x t ≡ o) e.0 h)

pub one_list_of : (file : List ℕ) (ds es : List Returning) → Defines file ds → Defines file es → ds ≡ es
one_list_of file ds es p q =
    some_one (definitions file q.tokens q.tree) ds es (definitions_here file p.tokens q.tokens p.tree q.tree (Some ds) p.has_tree q.has_tree p.are) q.are

pub defines_or_not : (file : List ℕ) (ds : List Returning) (r : Refusal) → Defines file ds → IsRefused file r → ⊥
defines_or_not file ds r d (without_tree h) = never_treeless file d.tokens d.tree r d.has_tree h
defines_or_not file ds r d (not_of_form us u has none e) =
    none_some (definitions file d.tokens d.tree) ds (definitions_here file us d.tokens u d.tree None has d.has_tree none) d.are

-- ---- it has one entry
pub entry_or_not : (file entry : List ℕ) (i : ℕ) (d : Returning) → HasEntry file entry i d → HasNoEntry file entry → ⊥
entry_or_not file entry i d p q =
    let e : q.ds ≡ p.ds = one_list_of file q.ds p.ds q.defines p.defines in
    let missing = subst (λ (x : List Returning). All (λ y. y.name ≡ entry → ⊥) x) e q.missing in
    missing i d (slice_get_within p.ds i d p.at) (ap (λ (x : Returning). x.name) (get_or_from_slice_get p.ds i d d p.at) ∙ p.named)

pub one_entry : (file entry : List ℕ) (i j : ℕ) (d e : Returning) → HasEntry file entry i d → HasEntry file entry j e → (i ≡ j) × (d ≡ e)
one_entry file entry i j d e p q =
    let same : p.ds ≡ q.ds = one_list_of file p.ds q.ds p.defines q.defines in
    let at = subst (λ (x : List Returning). slice_get x i ≡ Some d) same p.at in
    let number : i ≡ j = one_number file q.defines.tokens q.defines.tree q.ds q.defines.are i j d e at q.at (p.named ∙ sym q.named) in
    (number, some_one (slice_get q.ds j) d e (subst (λ (n : ℕ). slice_get q.ds n ≡ Some d) number at) q.at)
