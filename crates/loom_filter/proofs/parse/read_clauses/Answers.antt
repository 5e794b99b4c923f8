use Rattle.std.proofs.Common.{◌≡◌, ◌<◌, arith, rules, length, Err, Some, None, sym, ap, subst, ◌∙◌}
use Rattle.std.proofs.lemmas.Result.{err_from_is_err_and}
use Rattle.std.proofs.lemmas.List.{length-map}
use Rattle.loom_filter.specs.ReaderView as view
use Rattle.loom_filter.specs.Builders.{plain}
use Rattle.loom_filter.specs.Machine.{finish}
use Rattle.loom_filter.specs.ReaderView.{filter_reader, clause_with, clauses_with, clauses_if}
use Rattle.loom_filter.specs.declared.parse.ReadError.{ReadError}
use Rattle.loom_filter.specs.FilterError.{IsTokenTaken, TellsToken, TellsClauses}
use Rattle.loom_filter.proofs.ClauseReading.{HasRead, nothing_read, token_read, on_further, error_told, not_whole, all_read}
use Rattle.loom_filter.proofs.parse.read_clauses.Goals as goal

pub read-init : goal.read-init
read-init c =
    let P : view.FilterReader → Type 0 = λ z. HasRead c.args.bytes.now c.blanks_end-at.result z in
    record { within = c.blanks_end-at.ensures.within; read = subst P (sym c.fresh-filter.ensures) (nothing_read c.args.bytes.now c.blanks_end-at.result c.blanks_end-at.ensures.value) }

pub returns-in_err-at : goal.returns-in_err-at
returns-in_err-at c =
    let bytes = c.args.bytes.now in
    let e : ReadError = c.in_err-at.field-0.0 in
    let told = err_from_is_err_and c.from_residual.result c.from_residual.ensures.1 in
    let same : c.from_residual.result ≡ Err e = told.1 ∙ ap (λ x. Err x) told.2 in
    let z = filter_reader c.read.filter in
    let y = filter_reader c.read_token.new.filter in
    let why : TellsToken bytes c.read.at z y (Err e) = c.in_err-at.ensures in
    subst (λ r. TellsClauses bytes r) (sym same) (error_told bytes c.read.at z y e c.read.invariant.read c.read-test.true why)

pub read-smaller : goal.read-smaller
read-smaller c =
    let z = filter_reader c.read.filter in
    let y = filter_reader c.read_token.new.filter in
    let taken : IsTokenTaken c.args.bytes.now c.read.at z y c.in_ok-at.at = c.in_ok-at.ensures in
    let further : c.read.at < c.in_ok-at.at = on_further c.args.bytes.now c.read.at c.in_ok-at.at z y c.read-test.true taken in
    omega (arith, further)

pub read-preserved : goal.read-preserved
read-preserved c =
    let z = filter_reader c.read.filter in
    let y = filter_reader c.read_token.new.filter in
    let taken : IsTokenTaken c.args.bytes.now c.read.at z y c.in_ok-at.at = c.in_ok-at.ensures in
    record { within = taken.at_most; read = token_read c.args.bytes.now c.read.at c.in_ok-at.at z y c.read.invariant.read taken }

pub returns-in-Some : goal.returns-in-Some
returns-in-Some c =
    let z = filter_reader c.read.filter in
    let ends : Some (clauses_with c.in-Some.clauses.items) ≡ finish plain z = ap clauses_if (sym c.in-Some.is) ∙ c.in_ok-clauses.ensures in
    all_read c.args.bytes.now c.read.at z c.in-Some.clauses.items c.read.invariant.read c.read-test.false ends

pub returns-in-None : goal.returns-in-None
returns-in-None c =
    let z = filter_reader c.read.filter in
    let ends : None ≡ finish plain z = ap clauses_if (sym c.in-None.is) ∙ c.in_ok-clauses.ensures in
    let number : c.len-whole.result ≡ length c.read.filter.clauses.items = search (rules, c.len-whole.ensures) in
    not_whole c.args.bytes.now c.read.at c.len-whole.result z c.read.invariant.read c.read-test.false ends (number ∙ sym (length-map c.read.filter.clauses.items clause_with))
