use Rattle.std.proofs.Common.{◌≡◌, ℕ, ◌<◌, cond, List, [], ◌∷◌, ◌++◌, length, map, take, get_or, Some, bytes_eq, sym, ap, ◌∙◌, rules, arith}
use Rattle.std.proofs.lemmas.List.{get_or_default, map_more, length-map, length-take-le}
use Rattle.c_lex.specs.Source.{text_of}
use Rattle.c_lex.specs.declared.token.Token.{Token}
use Rattle.c_lex.specs.declared.token.TokenKind.TheVariants as kind
use Rattle.c_input.specs.Input.{Word}
use Rattle.c_input.specs.Words.{kind_sign, is_name_kind, word_of}
use Rattle.c_input.specs.Numbers.{held, numbered}
use Rattle.c_input.proofs.Seen.{given_number, held_on, same_word, word}
use Rattle.c_input.proofs.words.word_list.Goals as goal

-- what a read past the end gives
abbrev no_token : Token
no_token = record { kind = kind.Keyword; at = 0; len = 0; place = record { name_at = 0; name_len = 0; line = 0 } }

pub loop-token-preserved : goal.loop-token-preserved
loop-token-preserved c =
    let file = c.args.file.now in
    let ts = c.args.tokens.now in
    let i = c.loop-token.token-index in
    let t = get_or ts i no_token in
    let m = c.loop-token.numbers in
    let inside : i < length ts = search rules in
    let same : t ≡ get_or ts i t = get_or_default ts i no_token t inside in
    let long : length c.loop-token.words.items ≡ i = ap length c.loop-token.invariant.read ∙ length-map (take i ts) (word_of file ts) ∙ length-take-le i ts (omega arith) in
    let at : c.len-at.result ≡ i = omega (arith, c.len-at.ensures, c.loop-token.words.ok.0, long) in
    let text : c.text-text.result.now ≡ text_of file t = c.text-text.ensures in
    let given : c.in_ok-name.name ≡ cond (is_name_kind t.kind) (numbered m (text_of file t) i) 0 =
    c.in_ok-name.ensures.number
    ∙ ap (λ (x : List ℕ). cond (is_name_kind t.kind) (numbered m x c.len-at.result) 0) text
    ∙ ap (λ (k : ℕ). cond (is_name_kind t.kind) (numbered m (text_of file t) k) 0) at in
    let name = given_number file ts i t m c.in_ok-name.name inside same c.loop-token.invariant.known given in
    let sign : c.kind_sign-sign.result ≡ kind_sign t.kind (text_of file t) = c.kind_sign-sign.ensures ∙ ap (λ (x : List ℕ). kind_sign t.kind x) text in
    record {
      read = c.in_ok-push.ensures.items
          ∙ ap (λ (ws : List Word). ws ++ word c.kind_sign-sign.result c.in_ok-name.name ∷ []) c.loop-token.invariant.read
          ∙ ap (λ (w : Word). map (word_of file ts) (take i ts) ++ w ∷ []) (same_word _ _ _ _ sign name)
          ∙ sym (map_more (word_of file ts) ts i no_token inside);
      known = λ q. held_on file ts i t m c.number.new.numbers c.in_ok-name.name inside same c.loop-token.invariant.known given q
          (c.in_ok-name.ensures.others q ∙ ap (λ (x : List ℕ). cond (is_name_kind t.kind) (cond (bytes_eq x q) (Some c.in_ok-name.name) (held m q)) (held m q)) text);
    }
