-- The bytes of a sheet (SheetBytes), how many they are (Sizes), and that what they say is the sheet (ReadsBack, by the files between).
-- The bytes of a well-formed sheet are those of what they say (WrittenBack), and what is said alone decides them (SameBytes).
-- The bytes of the other edition that say the same (OtherEdition).
pub mod SheetBytes
pub mod Sizes
pub mod Parts
pub mod EachByte
pub mod Bodies
pub mod ReadsBack
pub mod Faultless
pub mod BytesAt
pub mod WrittenBack
pub mod SameBytes
pub mod OtherEdition
