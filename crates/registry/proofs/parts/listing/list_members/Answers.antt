use Rattle.std.proofs.Common.{◌<◌, length, arith}
use Rattle.registry.specs.Layout.{held_of}
use Rattle.registry.proofs.MemberLemmas.{members_once, members_reply}
use Rattle.registry.proofs.parts.listing.list_members.Goals as goal

pub ascending-requires : goal.ascending-requires
ascending-requires g c = members_once (held_of c.args.parts.now) c.args.group c.members_of.result.now c.requires.lawful c.members_of.ensures.matching

pub returns-in-Ok-clause-ok : goal.returns-in-Ok-clause-ok
returns-in-Ok-clause-ok g c =
    let low : c.args.group < length c.args.parts.now.groups.decls = omega (arith, c.if-group-len.false, c.len.ensures) in
    members_reply (held_of c.args.parts.now) c.args.group c.members_of.result.now c.in-Ok.list c.requires.lawful low c.members_of.ensures.matching c.in-Ok.ensures.each c.in-Ok.ensures.ascending
