mod Bits
pub mod FieldLaws
pub mod WordLaws
pub mod NearLaws
pub mod CodeLaws
pub mod StepLaws
pub mod ExchangeLaws
pub mod SeedLaws
