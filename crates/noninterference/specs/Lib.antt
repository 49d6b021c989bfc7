-- What error records say changes nothing but what carries them.
pub mod NonInterference
