-- The ids of display objects. From: "Modeset Base Object Abstraction"; the numbers are this device's own.
use Rattle.std.specs.Prelude.{ℕ, ◌+◌, ◌-◌, Bool, ◌&&◌, nat_lt, nat_le, List, length, map, if◌then◌else◌}
use Rattle.std.specs.List.{range_with_len}
use Rattle.kms_model.specs.declared.objects.Kind.{Kind}
use Rattle.kms_model.specs.declared.objects.Kind.TheVariants.{Crtc, Plane, Conn, Enc}
use Rattle.kms_model.specs.declared.objects.Topology.{Topology}
use Rattle.kms_model.specs.declared.objects.TheConstants.{FIRST_CRTC_ID, FIRST_PLANE_ID, FIRST_CONNECTOR_ID, FIRST_ENCODER_ID, MAX_CRTCS}
use Rattle.kms_model.specs.declared.objects.TheConstants.{MAX_PLANES, MAX_CONNECTORS}

abbrev pub first_id : Kind → ℕ
first_id Crtc = FIRST_CRTC_ID
first_id Plane = FIRST_PLANE_ID
first_id Conn = FIRST_CONNECTOR_ID
first_id Enc = FIRST_ENCODER_ID

-- the id of the object of a kind with an index
abbrev pub object_id : Kind → ℕ → ℕ
object_id kind index = first_id kind + index

-- how many objects of a kind a device has: each connector has one encoder
abbrev pub count_of : Topology → Kind → ℕ
count_of t Crtc = t.crtcs
count_of t Plane = length t.planes
count_of t Conn = length t.conns
count_of t Enc = length t.conns

-- the ids of a device's objects of a kind, in order
abbrev pub ids_of : Topology → Kind → List ℕ
ids_of t kind = map (object_id kind) (range_with_len 0 (count_of t kind))

-- their indices
abbrev pub indices_of : Topology → Kind → List ℕ
indices_of t kind = range_with_len 0 (count_of t kind)

-- the object is on the device
abbrev pub exists : Topology → Kind → ℕ → Bool
exists t kind index = nat_lt index (count_of t kind)

-- the kind of object that an id is of
abbrev pub kind_of : ℕ → Kind
kind_of id =
    if nat_lt id (first_id Plane) then Crtc
    else (if nat_lt id (first_id Conn) then Plane
    else (if nat_lt id (first_id Enc) then Conn else Enc))

-- the index of the object with an id among those of its kind
abbrev pub index_of : ℕ → ℕ
index_of id = id - first_id (kind_of id)

-- the most objects of a kind that a device has
abbrev pub most_of : Kind → ℕ
most_of Crtc = MAX_CRTCS
most_of Plane = MAX_PLANES
most_of Conn = MAX_CONNECTORS
most_of Enc = MAX_CONNECTORS

-- an id is that of an object of a kind of the largest device
abbrev pub is_id_of : Kind → ℕ → Bool
is_id_of kind id = nat_le (first_id kind) id && nat_lt id (first_id kind + most_of kind)
