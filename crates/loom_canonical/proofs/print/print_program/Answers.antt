use Rattle.std.proofs.Common.{◌++◌, map, ap, ◌∙◌}
use Rattle.loom_tree.specs.Lines.{ended}
use Rattle.loom_lang.specs.Canonical.{word_line, mutex_line, sema_line, functions_lines}
use Rattle.loom_canonical.proofs.ProgramText.{program_is}
use Rattle.loom_canonical.proofs.print.print_program.Goals as goal

pub returns : goal.returns
returns c =
    program_is c.args.p.now _ _ _ _
    (c.in_ok-put_words.ensures ∙ ap (λ z. z ++ ended (map word_line c.words.result.now)) c.new.ensures.items ∙ ap (λ z. ended (map word_line z)) c.words.ensures.words)
    (c.in_ok-put_mutexes.ensures ∙ ap (λ z. c.put_words.new.out ++ ended (map mutex_line z)) c.mutexes.ensures.mutexes)
    (c.in_ok-put_semas.ensures ∙ ap (λ z. c.put_mutexes.new.out ++ ended (map sema_line z)) c.semas.ensures.semas)
    (c.in_ok-put_functions.ensures ∙ ap (λ z. c.put_semas.new.out ++ ended (functions_lines z)) c.funcs.ensures.funcs)
