use Rattle.std.proofs.Common.{inl, inr}
use Rattle.world_top.specs.Playing.{Plays}
use Rattle.world_text.specs.declared.script.ScriptLine.TheVariants.{Run}
use Rattle.world_top.proofs.LiveLemmas.{map_ok}
use Rattle.world_top.proofs.PlayLemmas.{ran}
use Rattle.world_top.proofs.playing.play_command.Goals as goal

pub returns : goal.returns
returns g c = map_ok c.push_reply.result (λ printed watches. elim c.run-reply.ensures.run as (λ _. Plays c.args.registry.now c.run-reply.new.self watches watches c.args.out.now.items c.push_reply.new.out.items (Run c.args.command.now)) [
  | inl done ↦ ran c.args.registry.now c.run-reply.new.self c.args.command.now c.run-reply.result c.args.decls.now c.args.out.now.items c.push_reply.new.out.items watches c.requires.decls c.requires.profile done.0 done.2 printed
  | inr none ↦ absurd (c.wants_memory.ensures c.if-wants_memory.false none.2)
]) c.push_reply.ensures.ok
