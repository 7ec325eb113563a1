-- What a store keeps of its file.
use Rattle.std.specs.Prelude.{◌≡◌, ◌⊎◌, ℕ, List, [], ◌∷◌, ◌++◌, length, take}
use Rattle.wp_store.specs.Disk.{DiskTold, WhereTold, Only}
use Rattle.wp_store.specs.Records.{records_of, stored_bytes, AreRecords}

-- a file is whole records and one closed byte
pub record IsAtRest (bytes : List ℕ) : Type 0 where
  pub closed : bytes ≡ take (stored_bytes (records_of bytes)) bytes ++ 0 ∷ []
  pub whole : AreRecords (take (stored_bytes (records_of bytes)) bytes) (records_of bytes)

-- a file is at rest, with its closed byte at this place, and is the only image
pub record IsSettled (bytes : List ℕ) (images : List ℕ → Type 0) (place : ℕ) : Type 0 where
  pub at_rest : IsAtRest bytes
  pub durable : Only bytes images
  pub place_is : place ≡ stored_bytes (records_of bytes)

-- so is the file of a disk that tells its bytes
abbrev pub IsSettledAt : DiskTold → ℕ → Type 0
IsSettledAt disk place = WhereTold disk.holds (λ bytes. IsSettled bytes disk.images place)

-- the file of a disk that tells its bytes is the only image
abbrev pub IsDurable : DiskTold → Type 0
IsDurable disk = WhereTold disk.holds (λ bytes. Only bytes disk.images)

-- a file stands for these records
abbrev pub StandsFor : List (List ℕ) → List ℕ → Type 0
StandsFor bodies image = records_of image ≡ bodies

-- a file stands for these records, or for these and one more
abbrev pub IsWithOrWithout : List (List ℕ) → List ℕ → List ℕ → Type 0
IsWithOrWithout bodies body image = StandsFor bodies image ⊎ StandsFor (bodies ++ body ∷ []) image

-- so does the file of a disk that tells its bytes
abbrev pub HasRecords : DiskTold → List (List ℕ) → Type 0
HasRecords disk bodies = WhereTold disk.holds (StandsFor bodies)

-- a disk has the records that it had, where it tells its bytes
abbrev pub KeepsRecords : DiskTold → DiskTold → Type 0
KeepsRecords old new = WhereTold old.holds (λ bytes. HasRecords new (records_of bytes))

-- and one more
abbrev pub GainsRecord : DiskTold → DiskTold → List ℕ → Type 0
GainsRecord old new body = WhereTold old.holds (λ bytes. HasRecords new (records_of bytes ++ body ∷ []))

-- a disk that tells its bytes has so many records
abbrev pub HasCounted : DiskTold → ℕ → Type 0
HasCounted disk count = WhereTold disk.holds (λ bytes. count ≡ length (records_of bytes))

-- an image is one of those that there were, or stands for these records
abbrev pub IsBeforeOrStandsFor : DiskTold → List (List ℕ) → List ℕ → Type 0
IsBeforeOrStandsFor old bodies image = old.images image ⊎ StandsFor bodies image
