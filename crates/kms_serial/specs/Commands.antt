-- How many things and commits a command makes, and what a commit names.
use Rattle.std.specs.Prelude.{◌≡◌, ℕ, ◌+◌, ◌<◌, ◌≤◌, Bool, ◌&&◌, nat_lt, ⊤}
use Rattle.kms_model.specs.declared.objects.Topology.{Topology}
use Rattle.kms_model.specs.declared.replies.Reply.{Reply}
use Rattle.kms_model.specs.declared.replies.Reply.TheVariants as reply
use Rattle.kms_model.specs.declared.scripts.Request.{Request}
use Rattle.kms_model.specs.declared.worlds.World.{World}
use Rattle.kms_model.specs.Request.Touched.{named_set}

-- there is room for the things and the commit of one command more
pub record HasRoom (w : World) : Type 0 where
  pub ids : w.next_id < 4294967000
  pub commits : w.commits < 4294967000

-- the same, as a test
abbrev pub has_room : World → Bool
has_room w = nat_lt w.next_id 4294967000 && nat_lt w.commits 4294967000

-- a command makes at most four things, out-fences of a request, and one commit
pub record Grows (old new : World) : Type 0 where
  pub ids : new.next_id ≤ old.next_id + 4
  pub commits : new.commits ≤ old.commits + 1

-- where a request that leads from one world to another is committed, this is the set of CRTCs that it names
abbrev pub NamesWhereCommitted : Topology → World → World → Request → Reply → ℕ → Type 0
NamesWhereCommitted t old new r (reply.Commit k) named = named ≡ named_set t old.values new.values r.assigns
NamesWhereCommitted t old new r _ named = ⊤

-- where nothing is committed, the set of named CRTCs is empty
abbrev pub IsEmptyUnlessCommitted : Reply → ℕ → Type 0
IsEmptyUnlessCommitted (reply.Commit k) named = ⊤
IsEmptyUnlessCommitted _ named = named ≡ 0
