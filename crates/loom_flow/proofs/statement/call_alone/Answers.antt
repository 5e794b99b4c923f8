use Rattle.loom_flow.proofs.Sizes.{call_site}
use Rattle.loom_flow.proofs.statement.call_alone.Goals as goal

pub returns-clause-sites : goal.returns-clause-sites
returns-clause-sites c =
    call_site c.args.spot.line c.args.spot.line c.args.spot.place _ _ _ _ _ _ _ _ c.in_ok-put_site.ensures c.in_ok-resume.ensures.resume c.in_ok-resume.ensures.code c.in_ok-push.ensures
