-- Worked examples of the definitions, computed: two contexts, of which the younger holds the first CRTC.
use Rattle.std.proofs.Common.{◌≡◌, ℕ, [], ◌∷◌, Some, None, refl, inl, arith}
use Rattle.kms_model.specs.declared.objects.Kind.{Kind}
use Rattle.kms_model.specs.declared.objects.Kind.TheVariants.{Crtc, Plane, Conn}
use Rattle.kms_model.specs.declared.objects.ObjId.{ObjId}
use Rattle.kms_model.specs.declared.objects.Ticket.{Ticket}
use Rattle.kms_model.specs.Device.Objects.{object_id}
use Rattle.kms_wwlock.specs.declared.contexts.ContextDoing.TheVariants.{Taking, MustBackOff, BackedOff}
use Rattle.kms_wwlock.specs.declared.table.Lock.TheVariants.{Got, Own, Older, Younger}
use Rattle.kms_wwlock.specs.declared.table.Relock.TheVariants as relock
use Rattle.kms_wwlock.specs.Objects.{lock_place}
use Rattle.kms_wwlock.specs.Table.{Table, holder_of, doing_of}
use Rattle.kms_wwlock.specs.Calls.{lock_answer, after_lock, after_backoff, relock_answer, after_relock, after_drop_all}
use Rattle.kms_wwlock.specs.Waits.{Lock, Begin, ContextWaits, ForYounger, after_all, empty_table}

abbrev object : Kind → ℕ → ObjId
object kind index = record { 0 = object_id kind index }

abbrev first : Ticket
first = record { 0 = 0 }

abbrev second : Ticket
second = record { 0 = 1 }

-- each object has a lock of its own: the first and the last of each kind lie next to each other
places : (lock_place (object Crtc 0) ≡ 0) × (lock_place (object Crtc 3) ≡ 3) × (lock_place (object Plane 0) ≡ 4)
    × (lock_place (object Plane 15) ≡ 19) × (lock_place (object Conn 0) ≡ 20) × (lock_place (object Conn 7) ≡ 27)
unfolding lock_place
places = (refl, refl, refl, refl, refl, refl)

-- the younger one backs off before the older one, which may ask again
answers : (lock_answer second (Some first) ≡ Older first) × (lock_answer first (Some second) ≡ Younger second)
    × (lock_answer first (Some first) ≡ Own) × (lock_answer first None ≡ Got)
answers = (refl, refl, refl, refl)

-- both contexts have begun; the older one holds the first plane and the younger one the first CRTC
abbrev held : Table
held = after_all empty_table (Begin 1 ∷ Begin 2 ∷ Lock first (object Plane 0) ∷ Lock second (object Crtc 0) ∷ [])

holders : (holder_of held (object Crtc 0) ≡ Some second) × (holder_of held (object Plane 0) ≡ Some first)
    × (holder_of held (object Conn 0) ≡ None)
unfolding lock_place
holders = (refl, refl, refl)

-- the older one waits for the younger one
older_waits : ContextWaits held first second
unfolding lock_place
older_waits = ForYounger (object Crtc 0) (record { taking = refl; lockable = inl (omega arith, omega arith) }) refl

-- the younger one asks for the plane, and then backs off: it holds nothing, and what it backed off for is the plane
abbrev asked : Table
asked = after_lock held second (object Plane 0) (Older first)

abbrev backed : Table
backed = after_backoff asked second

backs_off : (doing_of asked second ≡ Some (MustBackOff (object Plane 0))) × (doing_of backed second ≡ Some (BackedOff (object Plane 0)))
    × (doing_of backed first ≡ Some Taking) × (holder_of backed (object Crtc 0) ≡ None) × (holder_of backed (object Plane 0) ≡ Some first)
unfolding lock_place
backs_off = (refl, refl, refl, refl, refl)

-- the older one takes the CRTC, and the younger one waits for the plane until the older one is over
abbrev taken : Table
taken = after_lock backed first (object Crtc 0) Got

abbrev over : Table
over = after_drop_all taken first

abbrev again : Table
again = after_relock over second relock.Got

relocks : (lock_answer first (holder_of backed (object Crtc 0)) ≡ Got) × (lock_answer first (holder_of taken (object Crtc 0)) ≡ Own)
    × (relock_answer taken second ≡ relock.Held first) × (relock_answer over second ≡ relock.Got)
    × (holder_of again (object Plane 0) ≡ Some second) × (holder_of again (object Crtc 0) ≡ None) × (doing_of again second ≡ Some Taking)
unfolding lock_place
relocks = (refl, refl, refl, refl, refl, refl, refl)
