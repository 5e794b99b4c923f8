use Rattle.std.proofs.Common.{◌≡◌, false, get_or, arith}
use Rattle.loom_tree.specs.declared.token.Token as rust
use Rattle.loom_tree.specs.declared.token.TokenKind.TheVariants as t
use Rattle.loom_filter.specs.Words.{is_name}
use Rattle.loom_filter.proofs.Words.{name_by_tokens, is_name_kind, name_found, one_token_told, other_kind, other_count}
use Rattle.loom_filter.proofs.word.is_name.Goals as goal
use Rattle.loom_filter.proofs.word.is_name.Goals.{in_default, in_default-2}

abbrev none : rust.Token
none = record { kind = t.Name; start = 0; end = 0; line = 0 }

pub returns-in-Name : goal.returns-in-Name
returns-in-Name c =
    let w = c.args.word.now in
    let ts = c.as_slice.result.now in
    let found : name_by_tokens w ts ≡ is_name w = rw (c.as_slice.ensures.value, c.tokens.view_is) (name_found w c.in_ok-tokens.tokens c.in_ok-tokens.ensures.tokens c.in_ok-tokens.ensures.within) in
    let told = one_token_told w ts none (omega arith) (omega arith) found in
    let kind : (get_or ts 0 none).kind ≡ t.Name = c.in-Name.is in
    rw kind at told

pub returns-in-len1 : goal.returns-in-len1
returns-in-len1 c =
    let w = c.args.word.now in
    let ts = c.as_slice.result.now in
    let found : name_by_tokens w ts ≡ is_name w = rw (c.as_slice.ensures.value, c.tokens.view_is) (name_found w c.in_ok-tokens.tokens c.in_ok-tokens.ensures.tokens c.in_ok-tokens.ensures.within) in
    let told = one_token_told w ts none (omega arith) (omega arith) found in
    let kind : is_name_kind (get_or ts 0 none).kind ≡ false = other_kind (get_or ts 0 none).kind c.in_default-kind.not-Name in
    rw kind at told

pub returns : goal.returns
returns c =
    let w = c.args.word.now in
    let ts = c.as_slice.result.now in
    let found : name_by_tokens w ts ≡ is_name w = rw (c.as_slice.ensures.value, c.tokens.view_is) (name_found w c.in_ok-tokens.tokens c.in_ok-tokens.ensures.tokens c.in_ok-tokens.ensures.within) in
    elim c.if-as_slice-lt1.branch [
      | in_default b ↦ (let e = b.result-is in let l = b.in_default.len_below in rw e (other_count w ts (λ z. omega (arith, l, z)) found))
      | in_default-2 b ↦ (let e = b.result-is in let l = b.in_default.len_at_least in rw e (other_count w ts (λ z. omega (arith, l, z)) found))
    ]
