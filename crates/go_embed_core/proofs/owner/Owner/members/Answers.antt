use Rattle.std.proofs.Common.{map, ap}
use Rattle.go_embed_core.specs.OwnersShown.{owner_shown, named_shown}
use Rattle.go_embed_core.proofs.Adding.{members_all}
use Rattle.go_embed_core.proofs.owner.Owner.members.Goals as goal

pub returns : goal.returns
returns c = members_all (owner_shown c.args.self.now) (map named_shown c.new-members.result.items) (map named_shown c.add_own.new.members.items) (map named_shown c.add_underlying.new.members.items) (ap (map named_shown) c.new-members.ensures.items) c.in_ok-add_own.ensures c.in_ok-add_underlying.ensures
