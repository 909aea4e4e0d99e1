use Rattle.world_top.proofs.ProgressLemmas.{played_keeps}
use Rattle.world_top.proofs.playing.play.Goals as goal

pub tell_standing-requires-clause-profile : goal.tell_standing-requires-clause-profile
tell_standing-requires-clause-profile g c =
    (played_keeps _ _ _ _ _ _ _ _ _ c.in_ok-lines.ensures.ok c.requires.decls c.requires.profile).profile_is

pub tell_standing-requires-clause-decls : goal.tell_standing-requires-clause-decls
tell_standing-requires-clause-decls g c =
    (played_keeps _ _ _ _ _ _ _ _ _ c.in_ok-lines.ensures.ok c.requires.decls c.requires.profile).decls_are
