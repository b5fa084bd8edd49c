-- What an order asks for. Of advice itself nothing is promised.
pub mod Readable
