pub mod FaceCodes
