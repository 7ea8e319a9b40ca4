-- A strip that was taken apart.
use Rattle.std.specs.Prelude.{◌≡◌, ◌*◌, length}
use Rattle.tree.specs.Meaning.{Meaning}
use Rattle.tree.specs.Path.{leads_to, path_nodes}
use Rattle.strip.specs.declared.parse.Strip.{Strip}

-- Its path is as many nodes as its height says, and nothing more.
pub record OnlyNodes {N : Type 0} (m : Meaning N) (s : Strip) : Type 0 where
  pub size : length s.path.now ≡ s.height * m.width
  pub count : length (path_nodes m s.path.now) ≡ s.height

-- where its token and path lead
abbrev pub strip_leads : {N : Type 0} → Meaning N → Strip → N
strip_leads m s = leads_to m.join s.number (m.leaf s.number s.token.now) (path_nodes m s.path.now)
